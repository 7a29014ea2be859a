-- `power` meets its contract: 2^16 is 2^depth times what is shifted out.
-- Assumes nothing.
use Rattle.float_samples.proofs.Powers.{shifted_out}
use Rattle.float_samples.proofs.parts.power.Goals as goal

pub returns : goal.returns
returns c =
    shifted_out c.args.depth c.requires
