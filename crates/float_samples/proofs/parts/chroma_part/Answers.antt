-- `chroma_part` meets its contract: the distance from the middle over 2^depth, with its sign.
-- Assumes nothing.
use Rattle.std.proofs.Common.{rules}
use Rattle.float_samples.proofs.Sides.{chroma_over, chroma_under}
use Rattle.float_samples.proofs.parts.chroma_part.Goals as goal

pub returns-then-sample-half : goal.returns-then-sample-half
returns-then-sample-half c =
    chroma_under _ _ _ _ c.middle-half.ensures (search rules) c.if-sample-half.true c.over.ensures

pub returns-else-sample-half : goal.returns-else-sample-half
returns-else-sample-half c =
    chroma_over _ _ _ _ c.middle-half.ensures (search rules) c.if-sample-half.false c.over-else-sample-half.ensures
