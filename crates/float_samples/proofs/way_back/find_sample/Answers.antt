-- `find_sample` meets its contract: only the candidate can give the float, and it is held to it.
-- Assumes nothing.
use Rattle.std.proofs.Common.{sym, ◌∙◌, true≢false}
use Rattle.std.proofs.lemmas.Option.{same_Some}
use Rattle.float_samples.proofs.Answers.{another}
use Rattle.float_samples.proofs.way_back.find_sample.Goals as goal

pub returns-else-same : goal.returns-else-same
returns-else-same c =
    another _ _ _ _ (λ s g. same_Some _ _ (sym c.in_ok-s.was ∙ c.candidate.ensures s g)) _ c.part-given.ensures
    c.part-given.type_inv c.well_formed.1.1.0.1
    (λ n e. true≢false (sym (c.same.ensures.1 n e) ∙ c.if-same.false))
