-- `decide` meets its contract: the test says whether tc is 0.
-- Assumes nothing.
use borrow.Author.Tests.{eq-eqb, ne_eqb}
use Rattle.lines.specs.Answer.{case_of}
use Rattle.lines.specs.Decision.{side_count}
use Rattle.bench.specs.Code.{decision_or_skip}
use Rattle.bench.proofs.segment.decide.Goals as goal

pub returns-then-t-eq0 : goal.returns-then-t-eq0
unfolding decision_or_skip case_of side_count
returns-then-t-eq0 c =
    let skip = c.with_counts.ensures in
    simp (eq-eqb _ _ c.if-t-eq0.true) (λ i. record { decision = skip.decision i; counts = skip.counts i })

pub returns-else-t-eq0 : goal.returns-else-t-eq0
unfolding decision_or_skip
returns-else-t-eq0 c =
    simp (ne_eqb _ _ c.if-t-eq0.false) c.luma_decision.ensures
