-- Samples and floats, one to one: the fraction of a sample is a float, of no other sample, and of no other pattern.
use Rattle.std.proofs.Common.{◌≡◌, ℕ, suc, ◌-◌, ◌*◌, ◌^◌, ◌<◌, ◌≤◌, Bool, true, false, cond, T, ltb, ◌⊎◌, ℤ, pos}
use Rattle.std.proofs.Common.{negsuc, nat_abs, sym, refl, ap, ◌∙◌, subst, inl, inr, true≢false, le_trans, le_refl}
use Rattle.std.proofs.Common.{lt_of_lt_of_le, zero-mul, arith, lit≤, ltb→lt, pow_mono}
use native.Mathlib.Nat.{eq_of_mul-eq-mul_right}
use lib.IntN.{sub_ℕ}
use lib.Pow.{pow-lt}
use lib.Ieee.{Float, nan, inf, fin, binary32, round, fits, down}
use lib.Ieee.Bits.{is_true}
use lib.Ieee.Fits.{down_pos, round-fits}
use Rattle.ints.specs.Int.{◌⊖◌}
use Rattle.ints.proofs.Laws.{diff_neg, diff_pos, either}
use Rattle.float_samples.specs.Fraction.{Exactly, F32, is_negative}
use Rattle.float_samples.specs.OneToOne.{AllOneToOne}
use Rattle.float_samples.specs.Sample.{DepthOk, Gives, numerator, part_of}
use Rattle.float_samples.proofs.Exact.{exactly, fraction, one_float}
use Rattle.float_samples.proofs.Sides.{over_middle}

-- ---- floats that no sample gives

module _ (d : ℕ) (chroma : Bool) where
  no_nan : (s : ℕ) → Gives d chroma s nan → ⊥
  unfolding Exactly
  no_nan s g = g.exact

  no_infinity : (t : Bool) (s : ℕ) → Gives d chroma s (inf t) → ⊥
  unfolding Exactly
  no_infinity t s g = g.exact

no_fraction : (d : ℕ) (n : ℤ) → Exactly (fin true 0 (pos 0)) n d → ⊥
unfolding Exactly
no_fraction d (pos n) v = true≢false v.0
no_fraction d (negsuc n) v = none (0 * 1 * 2 ^ d) (zero-mul (2 ^ d)) v.1
  where
    none : (a : ℕ) → a ≡ 0 → a ≡ suc n * 1 → ⊥
    none a z e = omega arith

-- ---- two samples give two floats

-- a float is one fraction over 2^d alone
one_number : (d : ℕ) (x : Float) (n m : ℤ) → Exactly x n d → Exactly x m d → n ≡ m
unfolding Exactly
one_number d nan n m v w = absurd v
one_number d (inf t) n m v w = absurd v
one_number d (fin t k e) (pos a) (pos b) v w =
    ap pos (eq_of_mul-eq-mul_right (down e) (down_pos e) a b (sym v.1 ∙ w.1))
one_number d (fin t k e) (pos a) (negsuc b) v w = absurd (true≢false (sym w.0 ∙ v.0))
one_number d (fin t k e) (negsuc a) (pos b) v w = absurd (true≢false (sym v.0 ∙ w.0))
one_number d (fin t k e) (negsuc a) (negsuc b) v w =
    let same : suc a ≡ suc b = eq_of_mul-eq-mul_right (down e) (down_pos e) (suc a) (suc b) (sym v.1 ∙ w.1) in
    ap negsuc (omega arith)

abbrev natural : ℤ → ℕ
natural (pos n) = n
natural (negsuc n) = n

diff_same : (a b c : ℕ) → a ⊖ c ≡ b ⊖ c → a ≡ b
diff_same a b c e = go (either a c) (either b c)
  where
    below : {i j : ℕ} → a ⊖ c ≡ negsuc i → b ⊖ c ≡ pos j → ⊥
    below f g = true≢false (sym (ap is_negative f) ∙ ap is_negative e ∙ ap is_negative g)

    above : {i j : ℕ} → a ⊖ c ≡ pos i → b ⊖ c ≡ negsuc j → ⊥
    above f g = true≢false (sym (ap is_negative g) ∙ sym (ap is_negative e) ∙ ap is_negative f)

    go : (a < c) ⊎ (c ≤ a) → (b < c) ⊎ (c ≤ b) → a ≡ b
    go (inl h) (inl k) =
        let m : c - suc a ≡ c - suc b = ap natural (sym (diff_neg a c h) ∙ e ∙ diff_neg b c k) in omega arith
    go (inl h) (inr k) = absurd (below (diff_neg a c h) (diff_pos b c k))
    go (inr h) (inl k) = absurd (above (diff_pos a c h) (diff_neg b c k))
    go (inr h) (inr k) = let m : a - c ≡ b - c = ap natural (sym (diff_pos a c h) ∙ e ∙ diff_pos b c k) in omega arith

one_numerator : (d : ℕ) (chroma : Bool) (s t : ℕ) → numerator d chroma s ≡ numerator d chroma t → s ≡ t
unfolding numerator
one_numerator d false s t e = ap natural e
one_numerator d true s t e = diff_same s t (2 ^ (d - 1)) e

-- ---- the float as a function of the sample

apart : (a b c : ℕ) → a < c → b < c → nat_abs (sub_ℕ a b) < c
apart a b c h k = go (ltb a b) (ltb→lt a b)
  where
    go : (t : Bool) → (T t → a < b) → nat_abs (cond t (negsuc (b - suc a)) (pos (a - b))) < c
    go true l = let m : a < b = l tt in omega arith
    go false l = omega arith

few : (d s : ℕ) → DepthOk d → s < 2 ^ d → s < 2 ^ 24
few d s D h = lt_of_lt_of_le h (pow_mono {j = 24} (le_trans D.most (lit≤ tt)))

small_numerator : (d : ℕ) (chroma : Bool) (s : ℕ) → DepthOk d → s < 2 ^ d → nat_abs (numerator d chroma s) < 2 ^ 24
unfolding numerator ◌⊖◌
small_numerator d false s D h = few d s D h
small_numerator d true s D h =
    apart s (2 ^ (d - 1)) (2 ^ 24) (few d s D h) (pow-lt {j = 24} (lower d D.most))
  where
    lower : (a : ℕ) → a ≤ 16 → a - 1 < 24
    lower a l = omega arith

part_exact : (d : ℕ) (chroma : Bool) (s : ℕ) → DepthOk d → s < 2 ^ d → Gives d chroma s (part_of d chroma s)
unfolding part_of
part_exact d chroma s D h =
    let n = numerator d chroma s in
    let v = fraction (is_negative n) (nat_abs n) d (small_numerator d chroma s D h) (le_trans D.most (lit≤ tt)) in
    record { range = h; exact = exactly (round binary32 (is_negative n) (nat_abs n) (2 ^ d)) n d v }

part_fits : (d : ℕ) (chroma : Bool) (s : ℕ) → F32 (part_of d chroma s)
unfolding part_of
part_fits d chroma s = is_true _ (round-fits binary32 _ _ _)

part_is : (d : ℕ) (chroma : Bool) (s : ℕ) (x : Float) → DepthOk d → F32 x → Gives d chroma s x
    → x ≡ part_of d chroma s
part_is d chroma s x D p g =
    let w = part_exact d chroma s D g.range in
    one_float x (part_of d chroma s) (numerator d chroma s) d p (part_fits d chroma s) g.exact w.exact

pub all_one_to_one : AllOneToOne
all_one_to_one d chroma D = record {
  exact = λ s h. (part_fits d chroma s, part_exact d chroma s D h);
  one_float = λ s x p g. part_is d chroma s x D p g;
  one_sample = λ s t x g h.
      one_numerator d chroma s t
      (one_number d x (numerator d chroma s) (numerator d chroma t) g.exact h.exact);
  no_nan = no_nan d chroma;
  no_infinity = no_infinity d chroma;
  no_negative_zero = λ s g. no_fraction d (numerator d chroma s) g.exact;
}

-- ---- the chroma sample in the middle gives +0.0

no_rest : (a : ℕ) → a - a ≡ 0
no_rest a = omega arith

zero_exact : (d : ℕ) → Exactly (fin false 0 (pos 0)) (pos 0) d
unfolding Exactly
zero_exact d = (refl, zero-mul (2 ^ d))

zero_fits : F32 (fin false 0 (pos 0))
unfolding fits
zero_fits = refl

pub middle_zero : (d : ℕ) (x : Float) → F32 x → Gives d true (2 ^ (d - 1)) x → x ≡ fin false 0 (pos 0)
middle_zero d x p g =
    let half = 2 ^ (d - 1) in
    let n : numerator d true half ≡ pos 0 = over_middle d half (le_refl half) ∙ ap pos (no_rest half) in
    let v = subst (λ (z : ℤ). Exactly x z d) n g.exact in
    one_float x (fin false 0 (pos 0)) (pos 0) d p zero_fits v (zero_exact d)
