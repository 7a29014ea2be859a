-- `with_word` meets its contract: the number goes into the product.
-- Assumes nothing.
use Rattle.std.proofs.Common.{rules}
use Rattle.fingerprint.specs.Fnv.{step}
use Rattle.fingerprint.proofs.with_word.Goals as goal

pub returns : goal.returns
unfolding step
returns c = search rules
