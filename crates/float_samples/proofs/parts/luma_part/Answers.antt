-- `luma_part` meets its contract: the sample over 2^depth.
-- Assumes nothing.
use Rattle.std.proofs.Common.{rules}
use Rattle.float_samples.specs.Sample.{numerator}
use Rattle.float_samples.proofs.parts.luma_part.Goals as goal

pub returns : goal.returns
unfolding numerator
returns c =
    record { range = search rules; exact = c.over.ensures }
