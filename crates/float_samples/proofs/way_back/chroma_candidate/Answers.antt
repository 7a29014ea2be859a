-- `chroma_candidate` meets its contract: the whole number of the float or of its opposite, up or down from the middle.
-- Assumes nothing.
use Rattle.std.proofs.Common.{◌≡◌, ◌-◌, sym, ◌∙◌, arith}
use Rattle.std.proofs.lemmas.Option.{none-some, same_Some}
use lib.Ieee.{of_bits}
use Rattle.float_samples.proofs.Sides.{in_range_is, over, under}
use Rattle.float_samples.proofs.way_back.chroma_candidate.Goals as goal

-- below zero the sample is as far below the middle as the opposite's whole part says
pub returns-in_ok-whole_part : goal.returns-in_ok-whole_part
unfolding of_bits
returns-in_ok-whole_part c s g =
    let low = under _ _ _ _ c.requires c.middle-half.ensures s g c.if-value.true c.whole_part.ensures in
    let n : c.in_ok-whole_part.field-0 ≡ c.middle-half.result - s = same_Some _ _ (sym c.in_ok-whole_part.was ∙ low.1) in
    in_range_is _ c.checked_sub.ensures (omega (arith, n)) (omega (arith, n, low.0))

pub returns-in_err-whole_part : goal.returns-in_err-whole_part
unfolding of_bits
returns-in_err-whole_part c s g =
    let low = under _ _ _ _ c.requires c.middle-half.ensures s g c.if-value.true c.whole_part.ensures in
    absurd (none-some _ (sym c.in_err-whole_part.was ∙ low.1))

-- else as far above it as its own says
pub returns-in_ok-whole_part-2 : goal.returns-in_ok-whole_part-2
unfolding of_bits
returns-in_ok-whole_part-2 c s g =
    let high = over _ _ _ _ c.requires c.middle-half.ensures s g c.if-value.false c.whole_part-else-value.ensures in
    let n : c.in_ok-whole_part-2.field-0 ≡ s - c.middle-half.result =
    same_Some _ _ (sym c.in_ok-whole_part-2.was ∙ high.2) in
    in_range_is _ c.checked_add.ensures (omega (arith, n, high.0, high.1)) (omega (arith, n, high.0))

pub returns-in_err-whole_part-2 : goal.returns-in_err-whole_part-2
unfolding of_bits
returns-in_err-whole_part-2 c s g =
    let high = over _ _ _ _ c.requires c.middle-half.ensures s g c.if-value.false c.whole_part-else-value.ensures in
    absurd (none-some _ (sym c.in_err-whole_part-2.was ∙ high.2))
