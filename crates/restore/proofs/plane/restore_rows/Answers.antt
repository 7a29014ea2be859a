-- `restore_rows` meets its contract. The loop's invariant: the rows before y are done.
-- Assumes nothing.
use Prim.Native.Nat.{◌+◌}
use mathlib.Core.Path.{ap, ◌∙◌}
use native.Mathlib.Omega.{arith}
use Rattle.picture.specs.Plane.{at}
use Rattle.picture.specs.Scale.{cell_of}
use Rattle.planes.proofs.Bands.{plane_more}
use Rattle.restore.specs.Restored.{restored_for}
use Rattle.restore.proofs.PlaneRows.{row_end, line_row}
use Rattle.restore.proofs.Restored.{restored_local}
use Rattle.restore.proofs.plane.restore_rows.Goals as goal

pub loop-y-preserved : goal.loop-y-preserved
loop-y-preserved c =
    let a = c.args in
    let w = a.f.columns in
    let y = c.loop-y.y in
    let xs = c.loop-y.plane in
    let line = c.restore_line in
    let end = row_end w a.f.rows y c.loop-y-test.true in
    let row-is = c.row_of_cells-row.ensures ∙ ap cell_of c.luma_row_at.ensures in
    let is =
    line_row _ _ c.requires y _ _ c.loop-y-test.true row-is c.cell_columns-across.ensures _ xs line.new.line
    line.ensures in
    plane_more _ _ y (y + 1) (restored_for a.pcm a.cells.now a.k a.f (at a.original.now w))
    (restored_local _ _ _ _ _ _ _ _) _ xs line.new.line
    (omega arith) (omega arith) (omega (arith, end.0, end.1, c.requires.plane_long, c.loop-y.auto.plane))
    line.auto.line is c.loop-y.invariant
