-- The way back, from the one candidate k: where a sample gives x it is k (`Only`). y is the float that k gives.
use Rattle.std.proofs.Common.{◌≡◌, ℕ, Bool, not, T, sym, subst}
use Rattle.std.proofs.lemmas.Option.{none-some}
use Rattle.std.specs.Prelude.{None}
use lib.Ieee.{Float, is_nan}
use Rattle.float_samples.specs.Fraction.{F32}
use Rattle.float_samples.specs.Sample.{Gives, numerator}
use Rattle.float_samples.specs.Found.{Finds}
use Rattle.float_samples.proofs.Exact.{exact_is_number, one_float}

abbrev Only : ℕ → Bool → Float → ℕ → Type 0
Only d chroma x k = (s : ℕ) → Gives d chroma s x → k ≡ s

-- y is not x
pub another : (d : ℕ) (chroma : Bool) (x : Float) (k : ℕ) → Only d chroma x k → (y : Float) → Gives d chroma k y
    → F32 y → F32 x → (T (not (is_nan y)) → y ≡ x → ⊥) → Finds d chroma x None
another d chroma x k only y g p q differs = record {
  only = λ s e. absurd (none-some s e);
  every = λ s h.
      let n = numerator d chroma k in
      let v = subst (λ (a : ℕ). Gives d chroma a x) (sym (only s h)) h in
      absurd (differs (exact_is_number y n d g.exact) (one_float y x n d p q g.exact v.exact));
}
