-- `tile_lines` is safe and ends: the measure is what is left to try.
-- Assumes nothing.
use Rattle.tile_run.proofs.Trials.{fewer}
use Rattle.tile_run.proofs.tiles.tile_lines.Goals as goal

pub loop-now-smaller : goal.loop-now-smaller
loop-now-smaller g c =
    rw c.next_trial-now.ensures (fewer _ _ _ c.loop-now-test.true)
