-- `others_bad` meets its contract: its own tests and the flags of its two calls, in the definition's order.
-- Assumes nothing.
use mathlib.Core.Path.{refl}
use Rattle.bench_record.specs.Refusal.{others_bad}
use Rattle.bench_record.proofs.refusal.others_bad.Goals as goal

pub returns : goal.returns
unfolding others_bad
returns c =
    rw (c.qp_bad-p.ensures, c.qp_bad-q.ensures) refl
