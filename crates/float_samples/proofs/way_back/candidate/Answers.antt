-- `candidate` meets its contract for luma: the whole part is the sample.
-- Assumes nothing.
use Rattle.std.proofs.Common.{sym}
use Rattle.float_samples.proofs.Sides.{luma_whole, of_kind}
use Rattle.float_samples.proofs.way_back.candidate.Goals as goal

pub returns-else-chroma : goal.returns-else-chroma
returns-else-chroma c s g =
    luma_whole _ _ _ c.requires c.whole_part.ensures s (of_kind _ _ _ _ _ (sym c.if-chroma.false) g)
