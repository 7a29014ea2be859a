-- `over` meets its contract: both casts are exact, and so is the quotient.
-- Assumes nothing.
use Rattle.std.proofs.Common.{arith}
use Rattle.float_samples.proofs.Exact.{over_exact}
use Rattle.float_samples.proofs.parts.over.Goals as goal

pub returns : goal.returns
returns c =
    over_exact _ _ _ (omega arith) (omega arith) c.power.ensures
