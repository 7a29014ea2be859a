-- `tc_of` meets its contract: the test says whether bS is 0.
-- Assumes nothing.
use borrow.Author.Tests.{eq-eqb, ne_eqb}
use Rattle.bench.specs.Code.{tc_or_zero}
use Rattle.bench.proofs.segment.tc_of.Goals as goal

pub returns-then-bs-eq0 : goal.returns-then-bs-eq0
unfolding tc_or_zero
returns-then-bs-eq0 c =
    simp (eq-eqb _ _ c.if-bs-eq0.true)

pub returns-else-bs-eq0 : goal.returns-else-bs-eq0
unfolding tc_or_zero
returns-else-bs-eq0 c =
    simp (ne_eqb _ _ c.if-bs-eq0.false) c.luma_tc.ensures
