-- `comes_back` meets its contract: the way back of what a sample gives is that sample.
-- Assumes nothing.
use mathlib.Core.Path.{sym, ap, ◌∙◌}
use Rattle.recogniser.specs.WayBack.{answer_of}
use Rattle.recogniser.proofs.RoundTrip.{same_sample, taken_back}
use Rattle.sample_trips.proofs.comes_back.Goals as goal

pub returns-in_default : goal.returns-in_default
returns-in_default c =
    let told = taken_back _ _ _ c.requires.0 c.args.sample c.requires.1 _ c.sample_of.ensures in
    absurd (c.if-back-sample.false (same_sample (sym (ap answer_of c.in-Ok.is) ∙ told)))
