-- `restore` meets its contract: row by row where a cell is suppressed; else the plane is restored as it is.
-- Assumes nothing.
use Rattle.restore.proofs.Restored.{restored_already}
use Rattle.restore.proofs.plane.restore.Goals as goal

pub returns-else-r : goal.returns-else-r
returns-else-r c =
    restored_already _ _ c.requires.restorable _ (c.requires.any_suppressed.none c.if-r.false)
