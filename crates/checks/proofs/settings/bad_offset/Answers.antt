-- `bad_offset` meets its contract: its two tests together.
-- Assumes nothing.
use Rattle.std.proofs.Common.{rules, tests}
use Rattle.ints.specs.Int.{lt, neg}
use Rattle.checks.proofs.settings.bad_offset.Goals as goal

pub returns : goal.returns
unfolding lt neg
returns c = search (rules, tests)
