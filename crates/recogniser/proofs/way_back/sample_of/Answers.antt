-- `sample_of` meets its contract: a depth in range is answered by what was found.
-- Assumes nothing.
use Rattle.std.proofs.Common.{ℕ, sym, ◌∙◌, subst}
use Rattle.std.specs.Prelude.{Result}
use Rattle.recogniser.specs.declared.SampleRefusal.{SampleRefusal}
use Rattle.recogniser.specs.WayBack.{WayBack, answer_of}
use Rattle.recogniser.proofs.Answers.{by_found}
use Rattle.recogniser.proofs.way_back.sample_of.Goals as goal

pub returns : goal.returns
returns c =
    let a = c.args in
    subst (λ (r : Result ℕ SampleRefusal). WayBack a.depth a.chroma a.value (answer_of r)) (sym c.ok_or.ensures.value)
    (by_found a.depth a.chroma a.value c.find_sample.result (sym c.bad_depth.ensures ∙ c.if-bad_depth.false)
    c.find_sample.ensures)
