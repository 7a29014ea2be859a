-- `put_tile` meets its contract: the fingerprints of a cut that was filtered are its planes'.
-- Assumes nothing.
use Rattle.tile_run.proofs.line.put_tile.Goals as goal

pub returns-in-Ok : goal.returns-in-Ok
returns-in-Ok g c =
    rw c.in-Ok.is (rw c.cut_fingerprints.ensures at c.put_differing.ensures)
