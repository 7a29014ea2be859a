-- `slice_gate` meets its contract: its test is the definition's.
-- Assumes nothing.
use mathlib.Core.Path.{◌∙◌}
use Rattle.filter.proofs.Leaves.{gate_is}
use Rattle.filter.proofs.gate.slice_gate.Goals as goal

pub returns : goal.returns
returns c =
    c.then_some.ensures ∙ gate_is _ c.args.p c.args.q _ c.slice_at-s.ensures
