-- `restore_rows` meets its contract. The loop's invariant: the rows before y are done.
-- Assumes nothing.
use Rattle.picture.specs.Plane.{at}
use Rattle.planes.proofs.Bands.{DoneTo}
use Rattle.restore.specs.Restored.{restored_for}
use Rattle.restore.proofs.plane.restore_rows.Given as goal

abbrev pub invariant-loop-y : goal.invariant-loop-y
invariant-loop-y l =
    DoneTo l.f.columns l.f.rows (restored_for l.pcm l.cells l.k l.f (at l.original l.f.columns))
    (at l.initial.plane l.f.columns) l.y l.plane
