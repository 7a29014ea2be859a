-- `tile_lines` is safe and ends: the measure is what is left to try.
-- Assumes nothing.
use Rattle.std.proofs.Common.{length}
use Rattle.tile_run.proofs.Trials.{left}
use Rattle.tile_run.proofs.tiles.tile_lines.Given as goal

abbrev pub decreases-loop-now : goal.decreases-loop-now
decreases-loop-now g l = left (length l.picture.columns.now) (length l.picture.rows.now) l.now
