-- `restore_line` meets its contract. The loop's invariant: the cells before column gx are done.
-- Assumes nothing.
use Prim.Native.Nat.{◌*◌}
use Rattle.restore.proofs.CellRows.{LineDone}
use Rattle.restore.proofs.rows.restore_line.Given as goal

abbrev pub invariant-loop-gx : goal.invariant-loop-gx
invariant-loop-gx l =
    LineDone l.pcm l.cells l.width.0 l.row l.across l.original l.initial.line (l.gx * l.across) l.line
