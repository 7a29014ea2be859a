-- `whole_part` meets its contract: where x is n / 2^depth the product is n, passes both tests, and is cut to n.
-- Assumes nothing.
use Rattle.std.proofs.Common.{T, sym, ap, ◌∙◌, subst, true≢false, arith}
use Rattle.std.specs.Prelude.{Some}
use lib.Ieee.{of_bits, neg}
use Rattle.float_samples.proofs.Exact.{scaled_above, scaled_below, scaled_whole}
use Rattle.float_samples.proofs.way_back.whole_part.Goals as goal

pub truncating_f32_to_u64-requires : goal.truncating_f32_to_u64-requires
unfolding of_bits neg
truncating_f32_to_u64-requires c =
    record { lower_bound = subst T (sym c.if-scaled.true) tt; upper_bound = subst T (sym c.if-scaled-2.true) tt }

pub returns-then-scaled-2 : goal.returns-then-scaled-2
returns-then-scaled-2 c n N v =
    ap Some (c.truncating_f32_to_u64.ensures ∙ scaled_whole _ n _ _ N (omega arith) c.power.ensures v)

pub returns-else-scaled-2 : goal.returns-else-scaled-2
unfolding of_bits neg
returns-else-scaled-2 c n N v =
    absurd (true≢false (sym (scaled_below _ n _ _ N (omega arith) c.power.ensures v) ∙ c.if-scaled-2.false))

pub returns-else-scaled : goal.returns-else-scaled
unfolding of_bits neg
returns-else-scaled c n N v =
    absurd (true≢false (sym (scaled_above _ n _ _ N (omega arith) c.power.ensures v) ∙ c.if-scaled.false))
