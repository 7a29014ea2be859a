-- Floats that are a whole number over a power of two: quotient and product are exact, and the float is one alone.
-- `HasValue x s a c` of lib.Ieee.Exact says that x is finite, has the sign s and is a / c in size.
use Rattle.std.proofs.Common.{◌≡◌, ℕ, suc, ◌+◌, ◌-◌, ◌*◌, ◌/◌, ◌^◌, ◌<◌, ◌≤◌, min, Bool, true, false, cond, not, T}
use Rattle.std.proofs.Common.{eqb, ℤ, pos, negsuc, nat_abs, sym, ap, ◌∙◌, subst, true≢false, zero-le, le_trans}
use Rattle.std.proofs.Common.{le_of_eq, lt_of_lt_of_le, le_of_lt, lt_irrefl, zero-lt-suc, mul_assoc, mul_comm}
use Rattle.std.proofs.Common.{mul-lt-mul_of_pos_right, mul-pos, zero-mul, mul-one, mul_right_comm, mul-div_cancel}
use Rattle.std.proofs.Common.{arith, le→leb, eqb→eq, lt→ltb, pow_pos, pow_mono, pow-add, shl_lt, le-ltb}
use native.Mathlib.Nat.{eq_of_mul-eq-mul_right}
use mathlib.Core.Bool.{false≢true}
use lib.Ieee.{Float, nan, inf, fin, binary32, up, down, hid, top, size, round, neg, div, mul, lt}
use lib.Ieee.{of_int, in_float, to_unsigned, to_bits, of_bits, is_nan}
use lib.Ieee.Fits.{down_pos}
use lib.Ieee.Bits.{is_true, cond_no, of_bits-to_bits}
use lib.Ieee.Nearest.{div_same}
use lib.Ieee.Exact.{HasValue, round_exact}
use lib.Ieee.Back.{round_whole}
use lib.Ieee.Positive.{first_pos}
use lib.Ieee.Scale.{round_same}
use Rattle.float_samples.specs.Fraction.{Exactly, F32, is_negative}

-- ---- `Exactly` is the library's `HasValue` at a power of two
pub exactly : (x : Float) (n : ℤ) (d : ℕ) → HasValue x (is_negative n) (nat_abs n) (2 ^ d) → Exactly x n d
unfolding Exactly
exactly nan n d v = v
exactly (inf s) n d v = v
exactly (fin s m e) n d v = v

pub value : (x : Float) (n : ℤ) (d : ℕ) → Exactly x n d → HasValue x (is_negative n) (nat_abs n) (2 ^ d)
unfolding Exactly
value nan n d v = v
value (inf s) n d v = v
value (fin s m e) n d v = v

-- ---- n / 2 ^ d rounds to itself: n has at most the 24 digits that an f32 keeps
room : (d : ℕ) → d ≤ 24 → 149 - d + d ≡ 149
room d h = omega arith

top_room : (d : ℕ) → 24 + (149 - d) ≤ 277
top_room d = omega arith

pub fraction : (s : Bool) (n d : ℕ) → n < 2 ^ 24 → d ≤ 24 → HasValue (round binary32 s n (2 ^ d)) s n (2 ^ d)
fraction s n d N D =
    round_exact binary32 s n (2 ^ d) n (149 - d) (pow_pos d) N
    (lt_of_lt_of_le (shl_lt 24 (149 - d) N) (pow_mono (top_room d)))
    (ap (λ (x : ℕ). n * x) (ap (λ (x : ℕ). 2 ^ x) (sym (room d D)) ∙ pow-add 2 (149 - d) d)
    ∙ sym (mul_assoc n (2 ^ (149 - d)) (2 ^ d)))

-- ---- the quotient
-- A / B is n and C / D is p: so A * D over C * B is n / p
quotient : (A B C D n p : ℕ) → A * 1 ≡ n * B → C * 1 ≡ p * D → A * D * p ≡ n * (C * B)
quotient A B C D n p v w =
    mul_assoc A D p
    ∙ ap (λ (x : ℕ). A * x) (mul_comm D p ∙ sym w ∙ mul-one C)
    ∙ ap (λ (x : ℕ). x * C) (sym (mul-one A) ∙ v)
    ∙ mul_assoc n B C
    ∙ ap (λ (x : ℕ). n * x) (mul_comm B C)

-- a float that is 2 ^ d in size is not 0
above_zero : (k : ℕ) (g : ℤ) (d : ℕ) → k * up g * 1 ≡ 2 ^ d * down g → 0 < k * up g
above_zero k g d w = subst (λ (x : ℕ). 0 < x) (sym w ∙ mul-one (k * up g)) (mul-pos (pow_pos d) (down_pos g))

not_zero : (k : ℕ) (g : ℤ) (d : ℕ) → k * up g * 1 ≡ 2 ^ d * down g → T (not (eqb k 0))
not_zero k g d w = go (eqb k 0) (eqb→eq k 0)
  where
    go : (b : Bool) → (T b → k ≡ 0) → T (not b)
    go false z = tt
    go true z =
        let e : k * up g ≡ 0 = ap (λ (y : ℕ). y * up g) (z tt) ∙ zero-mul (up g) in
        absurd (lt_irrefl 0 (subst (λ (x : ℕ). 0 < x) e (above_zero k g d w)))

quotient_exact : (x y : Float) (n d : ℕ) → n < 2 ^ 24 → d ≤ 24
    → HasValue x false n 1 → HasValue y false (2 ^ d) 1 → HasValue (div binary32 x y) false n (2 ^ d)
unfolding div
quotient_exact nan y n d N D v w = absurd v
quotient_exact (inf t) y n d N D v w = absurd v
quotient_exact (fin t m e) nan n d N D v w = absurd w
quotient_exact (fin t m e) (inf u) n d N D v w = absurd w
quotient_exact (fin true m e) (fin u k g) n d N D v w = absurd (true≢false v.0)
quotient_exact (fin false m e) (fin true k g) n d N D v w = absurd (true≢false w.0)
quotient_exact (fin false m e) (fin false k g) n d N D v w =
    let above = mul-pos (above_zero k g d w.1) (down_pos e) in
    let same : round binary32 false (m * up e * down g) (k * up g * down e) ≡ round binary32 false n (2 ^ d) =
    round_same binary32 false (m * up e * down g) (k * up g * down e) n (2 ^ d) above (pow_pos d)
    (quotient (m * up e) (down e) (k * up g) (down g) n (2 ^ d) v.1 w.1) in
    subst (λ (z : Float). HasValue z false n (2 ^ d)) (sym (cond_no (eqb k 0) _ _ (not_zero k g d w.1) ∙ same))
    (fraction false n d N D)

-- a whole number as an f32
cast_exact : (n : ℕ) → n ≤ 2 ^ 24 → HasValue (of_int binary32 (pos n)) false n 1
unfolding of_int
cast_exact n h = round_whole binary32 false n h

-- a power of two as an f32: p is what the code has worked out
small_power : (d p : ℕ) → d ≤ 24 → p ≡ 2 ^ d → p ≤ 2 ^ 24
small_power d p D e = le_trans (le_of_eq e) (pow_mono D)

pub power_casts : (d p : ℕ) → d ≤ 24 → p ≡ 2 ^ d → T (in_float binary32 (pos p))
unfolding in_float
power_casts d p D e = le→leb p (2 ^ 24) (small_power d p D e)

power_exact : (d p : ℕ) → d ≤ 24 → p ≡ 2 ^ d → HasValue (of_int binary32 (pos p)) false (2 ^ d) 1
power_exact d p D e =
    subst (λ (z : ℕ). HasValue (of_int binary32 (pos p)) false z 1) e (cast_exact p (small_power d p D e))

pub over_exact : (n d p : ℕ) → n < 2 ^ 24 → d ≤ 24 → p ≡ 2 ^ d
    → Exactly (div binary32 (of_int binary32 (pos n)) (of_int binary32 (pos p))) (pos n) d
over_exact n d p N D e =
    let x = of_int binary32 (pos n) in
    let y = of_int binary32 (pos p) in
    exactly (div binary32 x y) (pos n) d
    (quotient_exact x y n d N D (cast_exact n (le_of_lt N)) (power_exact d p D e))

-- ---- the product with 2 ^ d is exact
product : (A B C D n p : ℕ) → A * p ≡ n * B → C * 1 ≡ p * D → A * C * 1 ≡ n * (B * D)
product A B C D n p v w =
    mul-one (A * C)
    ∙ ap (λ (x : ℕ). A * x) (sym (mul-one C) ∙ w)
    ∙ sym (mul_assoc A p D)
    ∙ ap (λ (x : ℕ). x * D) v
    ∙ mul_assoc n B D

product_exact : (x y : Float) (n d : ℕ) → n ≤ 2 ^ 24
    → HasValue x false n (2 ^ d) → HasValue y false (2 ^ d) 1 → HasValue (mul binary32 x y) false n 1
unfolding mul
product_exact nan y n d N v w = absurd v
product_exact (inf t) y n d N v w = absurd v
product_exact (fin t m e) nan n d N v w = absurd w
product_exact (fin t m e) (inf u) n d N v w = absurd w
product_exact (fin true m e) (fin u k g) n d N v w = absurd (true≢false v.0)
product_exact (fin false m e) (fin true k g) n d N v w = absurd (true≢false w.0)
product_exact (fin false m e) (fin false k g) n d N v w =
    let above = mul-pos (down_pos e) (down_pos g) in
    let same = product (m * up e) (down e) (k * up g) (down g) n (2 ^ d) v.1 w.1 in
    subst (λ (z : Float). HasValue z false n 1)
    (sym (round_same binary32 false (m * up e * (k * up g)) (down e * down g) n 1 above (pow_pos 0) same))
    (round_whole binary32 false n N)

-- ---- a whole number below 2 ^ 64 passes the tests of a truncation, and is its own whole part
above_minus_one : (x : Float) (n : ℕ) → HasValue x false n 1 → T (lt (fin true 1 (pos 0)) x)
unfolding lt
above_minus_one nan n v = absurd v
above_minus_one (inf t) n v = absurd v
above_minus_one (fin true m e) n v = absurd (true≢false v.0)
above_minus_one (fin false m e) n v =
    lt→ltb 0 (1 * 1 * down e + m * up e * 1) (more (1 * 1 * down e) (m * up e * 1) (mul-pos (pow_pos 0) (down_pos e)))
  where
    more : (a b : ℕ) → 0 < a → 0 < a + b
    more a b h = omega arith

below_top : (x : Float) (n : ℕ) → n < 2 ^ 64 → HasValue x false n 1 → T (lt x (fin false 1 (pos 64)))
unfolding lt
below_top nan n N v = absurd v
below_top (inf t) n N v = absurd v
below_top (fin true m e) n N v = absurd (true≢false v.0)
below_top (fin false m e) n N v =
    lt→ltb (m * up e * 1) (1 * 2 ^ 64 * down e)
    (subst (λ (z : ℕ). z < 2 ^ 64 * down e) (sym v.1) (mul-lt-mul_of_pos_right N (down_pos e)))

whole_part : (x : Float) (n : ℕ) → n < 2 ^ 64 → HasValue x false n 1 → to_unsigned 64 x ≡ n
unfolding to_unsigned
whole_part nan n N v = absurd v
whole_part (inf t) n N v = absurd v
whole_part (fin true m e) n N v = absurd (true≢false v.0)
whole_part (fin false m e) n N v =
    let q : m * up e / down e ≡ n =
    ap (λ (z : ℕ). z / down e) (sym (mul-one (m * up e)) ∙ v.1) ∙ mul-div_cancel n (down_pos e) in
    ap (λ (z : ℕ). min z (2 ^ 64 - 1)) q ∙ least n N
  where
    least : (a : ℕ) → a < 2 ^ 64 → min a (2 ^ 64 - 1) ≡ a
    least a h = omega arith

-- so x = n / 2 ^ d, times 2 ^ d, is n after both tests
module _ (x : Float) (n d p : ℕ) (N : n < 2 ^ 17) (D : d ≤ 24) (e : p ≡ 2 ^ d) (v : Exactly x (pos n) d) where
  scaled : HasValue (mul binary32 x (of_int binary32 (pos p))) false n 1
  scaled = product_exact x (of_int binary32 (pos p)) n d few (value x (pos n) d v) (power_exact d p D e)
    where
      few : n ≤ 2 ^ 24
      few = omega arith

  pub scaled_above : lt (fin true 1 (pos 0)) (mul binary32 x (of_int binary32 (pos p))) ≡ true
  scaled_above = is_true _ (above_minus_one _ n scaled)

  pub scaled_below : lt (mul binary32 x (of_int binary32 (pos p))) (fin false 1 (pos 64)) ≡ true
  scaled_below = is_true _ (below_top _ n (omega arith) scaled)

  pub scaled_whole : to_unsigned 64 (mul binary32 x (of_int binary32 (pos p))) ≡ n
  scaled_whole = whole_part _ n (omega arith) scaled

-- ---- below zero, and the sign turned
pub turned : (x : Float) (k d : ℕ) → Exactly x (pos (suc k)) d → Exactly (neg x) (negsuc k) d
unfolding Exactly neg
turned nan k d v = v
turned (inf s) k d v = v
turned (fin s m e) k d v = (ap not v.0, v.1)

pub turned_back : (x : Float) (k d : ℕ) → Exactly x (negsuc k) d → Exactly (neg x) (pos (suc k)) d
unfolding Exactly neg
turned_back nan k d v = v
turned_back (inf s) k d v = v
turned_back (fin s m e) k d v = (ap not v.0, v.1)

below : (x : Float) (k d : ℕ) → Exactly x (negsuc k) d → T (lt x (fin false 0 (pos 0)))
unfolding Exactly lt
below nan k d v = absurd v
below (inf s) k d v = absurd v
below (fin false m e) k d v = absurd (false≢true v.0)
below (fin true m e) k d v =
    let above : 0 < m * up e * 2 ^ d = subst (λ (x : ℕ). 0 < x) (sym v.1) (mul-pos (zero-lt-suc k) (down_pos e)) in
    lt→ltb 0 (m * up e * 1 + 0 * down e) (sum_pos (m * up e) (0 * down e) (first_pos (m * up e) (2 ^ d) above))
  where
    sum_pos : (a b : ℕ) → 0 < a → 0 < a * 1 + b
    sum_pos a b h = omega arith

pub below_zero_lem : (x : Float) (k d : ℕ) → Exactly x (negsuc k) d → lt x (fin false 0 (pos 0)) ≡ true
below_zero_lem x k d v = is_true _ (below x k d v)

pub not_below_zero : (x : Float) (n d : ℕ) → Exactly x (pos n) d → lt x (fin false 0 (pos 0)) ≡ false
unfolding Exactly lt
not_below_zero nan n d v = absurd v
not_below_zero (inf s) n d v = absurd v
not_below_zero (fin true m e) n d v = absurd (true≢false v.0)
not_below_zero (fin false m e) n d v = rw (zero-mul (down e)) (le-ltb (m * up e * 1) 0 zero-le)

-- ---- a float that is a number
pub exact_is_number : (x : Float) (n : ℤ) (d : ℕ) → Exactly x n d → T (not (is_nan x))
unfolding Exactly is_nan
exact_is_number nan n d v = v
exact_is_number (inf s) n d v = tt
exact_is_number (fin s m e) n d v = tt

-- ---- a value has one bit pattern, and so is one float
cross : (A B C D n p : ℕ) → 0 < p → A * p ≡ n * B → C * p ≡ n * D → A * D ≡ C * B
cross A B C D n p P v w =
    eq_of_mul-eq-mul_right p P (A * D) (C * B)
    (mul_right_comm A D p
    ∙ ap (λ (x : ℕ). x * D) v
    ∙ mul_right_comm n B D
    ∙ ap (λ (x : ℕ). x * B) (sym w)
    ∙ mul_right_comm C p B)

same_bits : (x y : Float) (s : Bool) (n c : ℕ) → 0 < c
    → HasValue x s n c → HasValue y s n c → to_bits binary32 x ≡ to_bits binary32 y
unfolding to_bits
same_bits nan y s n c P v w = absurd v
same_bits (inf t) y s n c P v w = absurd v
same_bits (fin t m e) nan s n c P v w = absurd w
same_bits (fin t m e) (inf u) s n c P v w = absurd w
same_bits (fin t m e) (fin u k g) s n c P v w =
    let q : m * up e * 2 ^ 149 / down e ≡ k * up g * 2 ^ 149 / down g =
    div_same (m * up e * 2 ^ 149) (down e) (k * up g * 2 ^ 149) (down g) (down_pos e) (down_pos g)
    (mul_right_comm (m * up e) (2 ^ 149) (down g)
    ∙ ap (λ (z : ℕ). z * 2 ^ 149) (cross (m * up e) (down e) (k * up g) (down g) n c P v.1 w.1)
    ∙ mul_right_comm (k * up g) (down e) (2 ^ 149)) in
    ap (λ (b : Bool). written b (m * up e * 2 ^ 149 / down e)) (v.0 ∙ sym w.0) ∙ ap (written u) q
  where
    written : Bool → ℕ → ℕ
    written b z = cond b (top binary32) 0 + (size z - 24) * hid binary32 + z / 2 ^ (size z - 24)

-- Two f32 with one pattern are one float. That an f32 fits its format is known of a parameter and of a call's result.
pub one_pattern : (x y : Float) → F32 x → F32 y → to_bits binary32 x ≡ to_bits binary32 y → x ≡ y
one_pattern x y p q e =
    sym (of_bits-to_bits binary32 x (subst T (sym p) tt))
    ∙ ap (of_bits binary32) e
    ∙ of_bits-to_bits binary32 y (subst T (sym q) tt)

pub one_float : (x y : Float) (n : ℤ) (d : ℕ) → F32 x → F32 y → Exactly x n d → Exactly y n d → x ≡ y
one_float x y n d p q v w =
    one_pattern x y p q
    (same_bits x y (is_negative n) (nat_abs n) (2 ^ d) (pow_pos d) (value x n d v) (value y n d w))
