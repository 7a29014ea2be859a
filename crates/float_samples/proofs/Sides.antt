-- A sample and the float that it gives: luma, chroma below the middle, chroma from the middle on.
use Rattle.std.proofs.Common.{◌≡◌, ℕ, suc, ◌-◌, ◌*◌, ◌^◌, ◌<◌, ◌≤◌, Bool, true, false, not, T, ltb, ◌⊎◌, ℤ}
use Rattle.std.proofs.Common.{pos, negsuc, sym, ap, ◌∙◌, subst, inl, inr, true≢false, lt_of_lt_of_le, pow-suc}
use Rattle.std.proofs.Common.{arith, ltb→lt, nltb→le, pow_mono}
use Rattle.std.specs.Prelude.{Option, None, Some, SomeIff}
use lib.Ieee.{Float, fin, neg, lt}
use Rattle.ints.proofs.Laws.{diff_neg, diff_pos}
use Rattle.float_samples.specs.Fraction.{Exactly}
use Rattle.float_samples.specs.Sample.{DepthOk, Gives, numerator}
use Rattle.float_samples.proofs.Exact.{turned, turned_back, below_zero_lem, not_below_zero}

-- the middle is half of the range
pub twice : (d : ℕ) → DepthOk d → 2 ^ (d - 1) * 2 ≡ 2 ^ d
twice d h = sym (pow-suc 2 (d - 1)) ∙ ap (λ (x : ℕ). 2 ^ x) (up d h.least)
  where
    up : (x : ℕ) → 8 ≤ x → suc (x - 1) ≡ x
    up x l = omega arith

pub small : (d s : ℕ) → DepthOk d → s < 2 ^ d → s < 65536
small d s h r = lt_of_lt_of_le r (pow_mono h.most)

-- ---- what stands over 2 ^ depth, in chroma
pub over_middle : (d s : ℕ) → 2 ^ (d - 1) ≤ s → numerator d true s ≡ pos (s - 2 ^ (d - 1))
unfolding numerator
over_middle d s h = diff_pos s (2 ^ (d - 1)) h

pub under_middle : (d s : ℕ) → s < 2 ^ (d - 1) → numerator d true s ≡ negsuc (2 ^ (d - 1) - suc s)
unfolding numerator
under_middle d s h = diff_neg s (2 ^ (d - 1)) h

gap : (a s : ℕ) → s < a → a - s ≡ suc (a - suc s)
gap a s h = omega arith

-- ---- the floats that chroma samples give
module _ (d s half : ℕ) (x : Float) (e : half ≡ 2 ^ (d - 1)) (r : s < 2 ^ d) where
  pub chroma_over : half ≤ s → Exactly x (pos (s - half)) d → Gives d true s x
  chroma_over h v =
      let n : pos (s - half) ≡ numerator d true s =
      ap (λ (a : ℕ). pos (s - a)) e ∙ sym (over_middle d s (subst (λ (a : ℕ). a ≤ s) e h)) in
      record { range = r; exact = subst (λ (z : ℤ). Exactly x z d) n v }

  pub chroma_under : s < half → Exactly x (pos (half - s)) d → Gives d true s (neg x)
  chroma_under h v =
      let n : negsuc (half - suc s) ≡ numerator d true s =
      ap (λ (a : ℕ). negsuc (a - suc s)) e ∙ sym (under_middle d s (subst (λ (a : ℕ). s < a) e h)) in
      let w = turned x (half - suc s) d (subst (λ (a : ℕ). Exactly x (pos a) d) (gap half s h) v) in
      record { range = r; exact = subst (λ (z : ℤ). Exactly (neg x) z d) n w }

-- ---- from such a float back to its sample. `WholeIs d x r`: where x is a whole number over 2 ^ d, that number is r
abbrev pub WholeIs : ℕ → Float → Option ℕ → Type 0
WholeIs d x r = (n : ℕ) → n < 2 ^ 17 → Exactly x (pos n) d → r ≡ Some n

pub luma_whole : (d : ℕ) (x : Float) (r : Option ℕ) → DepthOk d → WholeIs d x r → (s : ℕ) → Gives d false s x
    → r ≡ Some s
unfolding numerator
luma_whole d x r D w s g = w s (bigger s (small d s D g.range)) g.exact
  where
    bigger : (a : ℕ) → a < 65536 → a < 2 ^ 17
    bigger a h = omega arith

-- a chroma sample's float is below zero exactly where the sample is below the middle
abbrev below_zero : Float → Bool
below_zero x = lt x (fin false 0 (pos 0))

abbrev Sides : ℕ → ℕ → ℕ → Float → Type 0
Sides d half s x =
    ((s < half) × (below_zero x ≡ true) × Exactly (neg x) (pos (half - s)) d)
    ⊎ ((half ≤ s) × (below_zero x ≡ false) × Exactly x (pos (s - half)) d)

sides : (d s : ℕ) (x : Float) → Gives d true s x → Sides d (2 ^ (d - 1)) s x
sides d s x g = go (ltb s half) (ltb→lt s half) (nltb→le s half)
  where
    half : ℕ
    half = 2 ^ (d - 1)

    at : {n : ℤ} → numerator d true s ≡ n → Exactly x n d
    at e = subst (λ (z : ℤ). Exactly x z d) e g.exact

    go : (b : Bool) → (T b → s < half) → (T (not b) → half ≤ s) → Sides d half s x
    go true l h =
        let k = half - suc s in
        let v = at (under_middle d s (l tt)) in
        let w = subst (λ (a : ℕ). Exactly (neg x) (pos a) d) (sym (gap half s (l tt))) (turned_back x k d v) in
        inl (l tt, below_zero_lem x k d v, w)
    go false l h =
        let v = at (over_middle d s (h tt)) in
        inr (h tt, not_below_zero x (s - half) d v, v)

module _ (d half : ℕ) (x : Float) (r : Option ℕ) (D : DepthOk d) (e : half ≡ 2 ^ (d - 1)) (s : ℕ)
    (g : Gives d true s x) where
  given_sides : Sides d half s x
  given_sides = subst (λ (a : ℕ). Sides d a s x) (sym e) (sides d s x g)

  in_range : s < half * 2
  in_range = subst (λ (a : ℕ). s < a) (sym (twice d D) ∙ ap (λ (a : ℕ). a * 2) (sym e)) g.range

  half_small : half ≤ 32768
  half_small = subst (λ (a : ℕ). a ≤ 32768) (sym e) (pow_mono {j = 15} (lower d D.most))
    where
      lower : (a : ℕ) → a ≤ 16 → a - 1 ≤ 15
      lower a h = omega arith

  -- the float is below zero, and r is the whole number of its opposite
  pub under : below_zero x ≡ true → WholeIs d (neg x) r → (s ≤ half) × (r ≡ Some (half - s))
  under t w =
      elim given_sides [
        | inl a ↦
            let H = half_small in
            let l : s < half = a.0 in
            (omega arith, w (half - s) (omega arith) a.2)
        | inr b ↦ absurd (true≢false (sym t ∙ b.1))
      ]

  -- it is not below zero, and r is its whole number
  pub over : below_zero x ≡ false → WholeIs d x r → (half ≤ s) × (s < 65536) × (r ≡ Some (s - half))
  over t w =
      elim given_sides [
        | inl a ↦ absurd (true≢false (sym a.1 ∙ t))
        | inr b ↦
            let R = in_range in
            let H = half_small in
            let l : half ≤ s = b.0 in
            (l, omega arith, w (s - half) (omega arith) b.2)
      ]

-- a sum or a difference that is in range
pub in_range_is : (o : Option ℕ) {P : Type 0} {v s : ℕ} → SomeIff o P v → P → v ≡ s → o ≡ Some s
in_range_is None h p e = absurd (h p)
in_range_is (Some a) h p e = ap Some (h.1 ∙ e)

-- ---- luma or chroma, by a test
pub of_kind : (d : ℕ) (b c : Bool) (s : ℕ) (x : Float) → b ≡ c → Gives d c s x → Gives d b s x
of_kind d b c s x e g = subst (λ (k : Bool). Gives d k s x) (sym e) g
