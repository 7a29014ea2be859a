-- There and back: what a sample gives is taken back to it, and nothing else is taken.
use mathlib.Core.Path.{◌≡◌, sym, ap, ◌∙◌, subst}
use mathlib.Core.Bool.{Bool, true, false, true≢false}
use mathlib.Core.List.{List, [], ◌∷◌}
use Prim.Native.Nat.{ℕ}
use native.Mathlib.Omega.{arith}
use lib.IntN.{pos}
use lib.Ieee.{Float, nan, inf, fin}
use Rattle.float_samples.specs.OneToOne.{OneToOne}
use Rattle.float_samples.specs.Sample.{DepthOk, Gives, part_of}
use Rattle.float_samples.proofs.OneToOne.{all_one_to_one}
use Rattle.recogniser.specs.RoundTrip.{RoundTrips}
use Rattle.recogniser.proofs.Answers.{depth_good, depth_not_bad}
use Rattle.recogniser.specs.WayBack.{Answer, WayBack, is_bad_depth, no_sample, refused, returned, the_sample}

-- a refusal is no sample, and two samples are two answers
pub returned_number : {s n : ℕ} → returned s ≡ refused n → n ≡ 0
returned_number e = ap (λ (a : Answer). a.verdict.number) (sym e)

abbrev first : List ℕ → ℕ
first [] = 0
first (s ∷ r) = s

pub same_sample : {s t : ℕ} → returned s ≡ returned t → s ≡ t
same_sample e = ap (λ (a : Answer). first a.samples) e

clash : {b : Bool} → b ≡ true → b ≡ false → ⊥
clash t f = true≢false (sym t ∙ f)

module _ (depth : ℕ) (chroma : Bool) (x : Float) where
  pub taken_back : DepthOk depth → (s : ℕ) → Gives depth chroma s x → (a : Answer) → WayBack depth chroma x a
      → a ≡ returned s
  taken_back ok s g a (is_bad_depth bad e) = absurd (clash bad (depth_not_bad depth ok))
  taken_back ok s g a (no_sample _ none e) = absurd (none s g)
  taken_back ok s g a (the_sample _ t h e) = e ∙ ap returned ((all_one_to_one depth chroma ok).one_sample t s x h g)

  taken : (s : ℕ) → WayBack depth chroma x (returned s) → Gives depth chroma s x
  taken s (is_bad_depth bad e) = absurd (omega (arith, returned_number e))
  taken s (no_sample ok none e) = absurd (omega (arith, returned_number e))
  taken s (the_sample ok t h e) = subst (λ (n : ℕ). Gives depth chroma n x) (sym (same_sample e)) h

  refuses : DepthOk depth → ((s : ℕ) → Gives depth chroma s x → ⊥) → (a : Answer) → WayBack depth chroma x a
      → a ≡ refused 15
  refuses ok none a (is_bad_depth bad e) = absurd (clash bad (depth_not_bad depth ok))
  refuses ok none a (no_sample _ _ e) = e
  refuses ok none a (the_sample _ t h e) = absurd (none t h)

  one_answer : (a b : Answer) → WayBack depth chroma x a → WayBack depth chroma x b → a ≡ b
  one_answer a b (is_bad_depth bad e) (is_bad_depth _ f) = e ∙ sym f
  one_answer a b (is_bad_depth bad e) (no_sample ok _ f) = absurd (clash bad ok)
  one_answer a b (is_bad_depth bad e) (the_sample ok _ _ f) = absurd (clash bad ok)
  one_answer a b (no_sample ok none e) w = e ∙ sym (refuses (depth_good depth ok) none b w)
  one_answer a b (the_sample ok s g e) w = e ∙ sym (taken_back (depth_good depth ok) s g b w)

pub round_trips : RoundTrips
round_trips = record {
  both_ways = λ depth chroma ok.
      let one : OneToOne depth chroma = all_one_to_one depth chroma ok in
      record {
        back_after_forth = λ s h a w. taken_back depth chroma (part_of depth chroma s) ok s (one.exact s h).1 a w;
        forth_after_back = λ s x p w. sym (one.one_float s x p (taken depth chroma x s w));
        others_refused = λ x none a w. refuses depth chroma x ok none a w;
        nan_refused = λ a w. refuses depth chroma nan ok one.no_nan a w;
        infinity_refused = λ t a w. refuses depth chroma (inf t) ok (one.no_infinity t) a w;
        negative_zero_refused = λ a w. refuses depth chroma (fin true 0 (pos 0)) ok one.no_negative_zero a w;
      };
  one_answer = one_answer;
}
