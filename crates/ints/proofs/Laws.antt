-- Every expression of naturals over ℤ is brought to the form `a ⊖ b`, and what is asked of such forms becomes a fact
-- on naturals, for `omega`.
use Prim.Native.Nat.{ℕ, zero, suc, ◌+◌, ◌*◌, ◌-◌, ◌/◌, ◌%◌, ◌^◌, ◌≤◌, ◌<◌, min, max}
use mathlib.Core.Path.{◌≡◌, refl, sym, ◌∙◌, ap, ap₂, subst}
use mathlib.Core.Bool.{Bool, true, false, cond, not}
use mathlib.Core.Logic.{◌⊎◌, inl, inr}
use native.Mathlib.Omega.{arith}
use native.Mathlib.Nat.{mul-add, add-mul-div_right, div-eq_of_lt-le, div-add-mod', mod-lt, lt_of_mul-lt-mul_right}
use lib.Pow.{pow_pos}
use lib.Dec.{T, ltb}
use lib.IntN.{ℤ, pos, negsuc, neg_ℤ, nat_abs, ◌+ℤ◌, ◌*ℤ◌, +ℤ_assoc, +ℤ_comm, neg_ℤ-+ℤ}
use lib.Signed.{◌≤ℤ◌, lt_z, shr_z, lt_z_yes, lt_z_no, clash_ℤ}
use borrow.Author.Tests.{lt-ltb, le-ltb}
-- the order of two naturals, to go by
pub use Rattle.std.proofs.lemmas.Bool.{cases_lt as either}
use Rattle.ints.specs.Int.{◌⊖◌, ◌⊞◌, ◌⊟◌, neg, ◌⊠◌, lt, ◌>>◌, clip3, abs, nat_of}

pub diff_pos : (a b : ℕ) → b ≤ a → a ⊖ b ≡ pos (a - b)
unfolding ◌⊖◌
diff_pos a b h = simp (le-ltb a b h)

pub diff_neg : (a b : ℕ) → a < b → a ⊖ b ≡ negsuc (b - suc a)
unfolding ◌⊖◌
diff_neg a b h = simp (lt-ltb a b h)

-- two differences are equal where the sums across are
pub diff_eq : (a b c d : ℕ) → a + d ≡ c + b → a ⊖ b ≡ c ⊖ d
diff_eq a b c d e = go (either a b) (either c d)
  where
    go : (a < b) ⊎ (b ≤ a) → (c < d) ⊎ (d ≤ c) → a ⊖ b ≡ c ⊖ d
    go (inl p) (inl q) = diff_neg a b p ∙ ap negsuc (omega arith) ∙ sym (diff_neg c d q)
    go (inl p) (inr q) = absurd (omega arith)
    go (inr p) (inl q) = absurd (omega arith)
    go (inr p) (inr q) = diff_pos a b p ∙ ap pos (omega arith) ∙ sym (diff_pos c d q)

pub pos_diff : (a : ℕ) → pos a ≡ a ⊖ 0
pos_diff a = sym (diff_pos a 0 (omega arith) ∙ ap pos (omega arith))

-- every integer is a difference: what holds of all differences holds of all integers
pub by_diff : (P : ℤ → Type 0) → ((a b : ℕ) → P (a ⊖ b)) → (z : ℤ) → P z
by_diff P f (pos n) = rw pos_diff (f n 0)
by_diff P f (negsuc n) =
    let e : suc n - 1 ≡ n = omega arith in
    subst P (diff_neg 0 (suc n) (omega arith) ∙ ap negsuc e) (f 0 (suc n))

-- a difference is the sum with the negative
pub diff_is : (a b : ℕ) → a ⊖ b ≡ pos a +ℤ neg_ℤ (pos b)
unfolding ◌⊖◌
diff_is a zero = sym (pos_diff a) ∙ ap pos (omega arith)
diff_is a (suc b) = refl

neg-pos : (n : ℕ) → neg_ℤ (pos n) ≡ 0 ⊖ n
neg-pos zero = pos_diff 0
neg-pos (suc n) = sym (diff_neg 0 (suc n) (omega arith) ∙ ap negsuc (omega arith))

neg_raw : (a b : ℕ) → neg_ℤ (a ⊖ b) ≡ b ⊖ a
neg_raw a b = go (either a b)
  where
    go : (a < b) ⊎ (b ≤ a) → neg_ℤ (a ⊖ b) ≡ b ⊖ a
    go (inl p) = ap neg_ℤ (diff_neg a b p) ∙ ap pos (omega arith) ∙ sym (diff_pos b a (omega arith))
    go (inr p) = ap neg_ℤ (diff_pos a b p) ∙ neg-pos (a - b) ∙ diff_eq 0 (a - b) b a (omega arith)

-- an integer is a difference; and what is so written is carried along
add_swap : (a b c d : ℤ) → (a +ℤ b) +ℤ (c +ℤ d) ≡ (a +ℤ c) +ℤ (b +ℤ d)
add_swap a b c d =
    +ℤ_assoc a b (c +ℤ d)
    ∙ ap (λ (t : ℤ). a +ℤ t) (sym (+ℤ_assoc b c d) ∙ ap (λ (t : ℤ). t +ℤ d) (+ℤ_comm b c) ∙ +ℤ_assoc c b d)
    ∙ sym (+ℤ_assoc a c (b +ℤ d))

add_raw : (a b c d : ℕ) → (a ⊖ b) +ℤ (c ⊖ d) ≡ (a + c) ⊖ (b + d)
add_raw a b c d =
    ap₂ ◌+ℤ◌ (diff_is a b) (diff_is c d)
    ∙ add_swap (pos a) (neg_ℤ (pos b)) (pos c) (neg_ℤ (pos d))
    ∙ ap (λ (t : ℤ). pos (a + c) +ℤ t) (sym (neg_ℤ-+ℤ (pos b) (pos d)))
    ∙ sym (diff_is (a + c) (b + d))

-- a multiple by a natural
mul_raw : (k a b : ℕ) → (k ⊖ 0) *ℤ (a ⊖ b) ≡ (k * a) ⊖ (k * b)
mul_raw k a b = ap (λ (t : ℤ). t *ℤ (a ⊖ b)) (sym (pos_diff k)) ∙ go (either a b)
  where
    go : (a < b) ⊎ (b ≤ a) → pos k *ℤ (a ⊖ b) ≡ (k * a) ⊖ (k * b)
    go (inl p) =
        let e : k * b ≡ k * a + k * suc (b - suc a) =
        ap (λ (t : ℕ). k * t) (omega arith) ∙ mul-add k a (suc (b - suc a)) in
        ap (λ (t : ℤ). pos k *ℤ t) (diff_neg a b p)
        ∙ ap neg_ℤ (pos_diff (k * suc (b - suc a)))
        ∙ neg_raw (k * suc (b - suc a)) 0
        ∙ diff_eq 0 (k * suc (b - suc a)) (k * a) (k * b) (omega arith)
    go (inr p) =
        let e : k * a ≡ k * b + k * (a - b) = ap (λ (t : ℕ). k * t) (omega arith) ∙ mul-add k b (a - b) in
        ap (λ (t : ℤ). pos k *ℤ t) (diff_pos a b p)
        ∙ pos_diff (k * (a - b))
        ∙ diff_eq (k * (a - b)) 0 (k * a) (k * b) (omega arith)

-- ---- the operations of Int.antt on differences

pub plus_diff : (a b c d : ℕ) → (a ⊖ b) ⊞ (c ⊖ d) ≡ (a + c) ⊖ (b + d)
unfolding ◌⊞◌
plus_diff = add_raw

pub minus_diff : (a b c d : ℕ) → (a ⊖ b) ⊟ (c ⊖ d) ≡ (a + d) ⊖ (b + c)
unfolding ◌⊟◌
minus_diff a b c d = ap (λ (z : ℤ). (a ⊖ b) +ℤ z) (neg_raw c d) ∙ add_raw a b d c

pub neg_diff : (a b : ℕ) → neg (a ⊖ b) ≡ b ⊖ a
unfolding neg
neg_diff = neg_raw

pub times_diff : (k a b : ℕ) → (k ⊖ 0) ⊠ (a ⊖ b) ≡ (k * a) ⊖ (k * b)
unfolding ◌⊠◌
times_diff = mul_raw

-- brings an expression of naturals to the form `a ⊖ b`
pub ruleset diffs = (pos_diff, plus_diff, minus_diff, neg_diff, times_diff)

-- and one that subtracts nothing to the form `pos n`
pub plus_pos : (a b : ℕ) → pos a ⊞ pos b ≡ pos (a + b)
unfolding ◌⊞◌
plus_pos a b = refl

pub times-pos : (a b : ℕ) → pos a ⊠ pos b ≡ pos (a * b)
unfolding ◌⊠◌
times-pos a b = refl

pub shr-pos : (n k : ℕ) → (pos n >> k) ≡ pos (n / 2 ^ k)
unfolding ◌>>◌
shr-pos n k = refl

pub ruleset naturals = (plus_pos, times-pos, shr-pos)

-- two tests are alike where each fact gives the other
same_test : (a b c d : ℕ) → (a < b → c < d) → (b ≤ a → d ≤ c) → ltb a b ≡ ltb c d
same_test a b c d f g = go (either a b)
  where
    go : (a < b) ⊎ (b ≤ a) → ltb a b ≡ ltb c d
    go (inl p) = lt-ltb a b p ∙ sym (lt-ltb c d (f p))
    go (inr p) = le-ltb a b p ∙ sym (le-ltb c d (g p))

pub lt_diff : (a b c d : ℕ) → lt (a ⊖ b) (c ⊖ d) ≡ ltb (a + d) (c + b)
unfolding lt
lt_diff a b c d = go (either a b) (either c d)
  where
    go : (a < b) ⊎ (b ≤ a) → (c < d) ⊎ (d ≤ c) → lt_z (a ⊖ b) (c ⊖ d) ≡ ltb (a + d) (c + b)
    go (inl p) (inl q) =
        ap₂ lt_z (diff_neg a b p) (diff_neg c d q)
        ∙ same_test (d - suc c) (b - suc a) (a + d) (c + b) (λ h. omega arith) (λ h. omega arith)
    go (inl p) (inr q) = ap₂ lt_z (diff_neg a b p) (diff_pos c d q) ∙ sym (lt-ltb (a + d) (c + b) (omega arith))
    go (inr p) (inl q) = ap₂ lt_z (diff_pos a b p) (diff_neg c d q) ∙ sym (le-ltb (a + d) (c + b) (omega arith))
    go (inr p) (inr q) =
        ap₂ lt_z (diff_pos a b p) (diff_pos c d q)
        ∙ same_test (a - b) (c - d) (a + d) (c + b) (λ h. omega arith) (λ h. omega arith)

-- against a natural
pub lt-pos : (e f n : ℕ) → lt (e ⊖ f) (pos n) ≡ ltb e (n + f)
lt-pos e f n = ap (lt (e ⊖ f)) (pos_diff n) ∙ lt_diff e f n 0 ∙ ap (λ (m : ℕ). ltb m (n + f)) (omega arith)

pub pos-lt : (n e f : ℕ) → lt (pos n) (e ⊖ f) ≡ ltb (n + f) e
pos-lt n e f = ap (λ (z : ℤ). lt z (e ⊖ f)) (pos_diff n) ∙ lt_diff n 0 e f ∙ ap (ltb (n + f)) (omega arith)

pub abs_diff : (a b : ℕ) → abs (a ⊖ b) ≡ (a - b) + (b - a)
unfolding abs
abs_diff a b = go (either a b)
  where
    go : (a < b) ⊎ (b ≤ a) → nat_abs (a ⊖ b) ≡ (a - b) + (b - a)
    go (inl p) = ap nat_abs (diff_neg a b p) ∙ omega arith
    go (inr p) = ap nat_abs (diff_pos a b p) ∙ omega arith

pub nat_diff : (a b : ℕ) → nat_of (a ⊖ b) ≡ a - b
unfolding nat_of
nat_diff a b = go (either a b)
  where
    go : (a < b) ⊎ (b ≤ a) → nat_of (a ⊖ b) ≡ a - b
    go (inl p) = ap nat_of (diff_neg a b p) ∙ omega arith
    go (inr p) = ap nat_of (diff_pos a b p)

-- ---- the shift, with a bias: K is large enough that the biased dividend is no less than 0

-- of what is below zero: the quotients of n and of its mirror image under K·m add up to K - 1
mirror : (m K n : ℕ) → 0 < m → n < K * m → (K * m - suc n) / m + suc (n / m) ≡ K
mirror m K n hm h =
    let q : ℕ = n / m in
    let e : q * m + n % m ≡ n = div-add-mod' n m in
    let r : n % m < m = mod-lt n hm in
    let low : q < K = lt_of_mul-lt-mul_right m (omega arith) in
    let j : ℕ = K - suc q in
    let all : K * m ≡ (j + suc q) * m = ap (λ (t : ℕ). t * m) (omega arith) in
    let quotient : (K * m - suc n) / m ≡ j = div-eq_of_lt-le m (omega arith) (omega arith) in
    omega arith

pub shr_diff : (K k a b : ℕ) → b ≤ a + K * 2 ^ k → (a ⊖ b >> k) ≡ ((a + K * 2 ^ k - b) / 2 ^ k) ⊖ K
unfolding ◌>>◌
shr_diff K k a b h = go (either a b)
  where
    go : (a < b) ⊎ (b ≤ a) → shr_z (a ⊖ b) (2 ^ k) ≡ ((a + K * 2 ^ k - b) / 2 ^ k) ⊖ K
    go (inl p) =
        let n : ℕ = b - suc a in
        let e : (K * 2 ^ k - suc n) / 2 ^ k + suc (n / 2 ^ k) ≡ K = mirror (2 ^ k) K n (pow_pos k) (omega arith) in
        let d : (a + K * 2 ^ k - b) / 2 ^ k ≡ (K * 2 ^ k - suc n) / 2 ^ k = ap (λ (t : ℕ). t / 2 ^ k) (omega arith) in
        ap (λ (z : ℤ). shr_z z (2 ^ k)) (diff_neg a b p)
        ∙ sym (diff_neg 0 (suc (n / 2 ^ k)) (omega arith) ∙ ap negsuc (omega arith))
        ∙ diff_eq 0 (suc (n / 2 ^ k)) _ K (omega arith)
    go (inr p) =
        let d : (a + K * 2 ^ k - b) / 2 ^ k ≡ (a - b) / 2 ^ k + K =
        ap (λ (t : ℕ). t / 2 ^ k) (omega arith) ∙ add-mul-div_right (a - b) K (pow_pos k) in
        ap (λ (z : ℤ). shr_z z (2 ^ k)) (diff_pos a b p)
        ∙ pos_diff ((a - b) / 2 ^ k)
        ∙ diff_eq ((a - b) / 2 ^ k) 0 _ K (omega arith)

-- ---- Clip3: of any three differences, and in the three forms that the standard uses

pub clip_diff : (a b c d e f : ℕ) → a + d ≤ c + b
    → clip3 (a ⊖ b) (c ⊖ d) (e ⊖ f) ≡ max (a + d + f) (min (c + b + f) (e + b + d)) ⊖ (b + d + f)
unfolding clip3
clip_diff a b c d e f h = simp lt_diff (go (either (e + b) (a + f)) (either (c + f) (e + d)))
  where
    res : ℤ
    res = max (a + d + f) (min (c + b + f) (e + b + d)) ⊖ (b + d + f)

    go : (e + b < a + f) ⊎ (a + f ≤ e + b) → (c + f < e + d) ⊎ (e + d ≤ c + f)
        → cond (ltb (e + b) (a + f)) (a ⊖ b) (cond (ltb (c + f) (e + d)) (c ⊖ d) (e ⊖ f)) ≡ res
    go (inl p) q = simp (lt-ltb _ _ p) (diff_eq a b _ _ (omega arith))
    go (inr p) (inl q) = simp (le-ltb _ _ p, lt-ltb _ _ q) (diff_eq c d _ _ (omega arith))
    go (inr p) (inr q) = simp (le-ltb _ _ p, le-ltb _ _ q) (diff_eq e f _ _ (omega arith))

-- Clip3(-t, t, v)
pub clip_sym : (t e f : ℕ) → clip3 (neg (pos t)) (pos t) (e ⊖ f) ≡ max f (min (f + 2 * t) (e + t)) ⊖ (f + t)
clip_sym t e f = simp diffs (clip_diff 0 t t 0 e f (omega arith) ∙ diff_eq _ _ _ _ (omega arith))

-- Clip3(x - d, x + d, v) of naturals
pub clip_near : (x d v : ℕ) → clip3 (pos x ⊟ pos d) (pos x ⊞ pos d) (pos v) ≡ pos (max (x - d) (min (x + d) v))
clip_near x d v =
    simp diffs (clip_diff (x + 0) (0 + d) (x + d) (0 + 0) v 0 (omega arith) ∙ diff_eq _ _ _ _ (omega arith))

-- Clip3(0, m, v)
pub clip_unit : (m e f : ℕ) → clip3 (pos 0) (pos m) (e ⊖ f) ≡ pos (min m (e - f))
clip_unit m e f = simp pos_diff (clip_diff 0 0 m 0 e f (omega arith) ∙ diff_eq _ _ _ _ (omega arith))

pub clip_index_is : (m e f : ℕ) → nat_of (clip3 (pos 0) (pos m) (e ⊖ f)) ≡ min m (e - f)
unfolding nat_of
clip_index_is m e f = ap nat_of (clip_unit m e f)

-- ---- Abs of a difference
pub gap_is : (a b : ℕ) → abs (pos a ⊟ pos b) ≡ (a - b) + (b - a)
gap_is a b = simp (diffs, abs_diff) (omega arith)

-- ---- a failed test of order, and the library's order

pub lt_false : (a b : ℤ) → lt a b ≡ false → b ≤ℤ a
unfolding lt
lt_false a b e = lt_z_no (subst (λ (t : Bool). T (not t)) (sym e) tt)

pub le-lt : (a b : ℤ) → b ≤ℤ a → lt a b ≡ false
unfolding lt
le-lt a b h = go (lt_z a b) refl
  where
    go : (t : Bool) → lt_z a b ≡ t → t ≡ false
    go true e = clash_ℤ (lt_z_yes (subst T (sym e) tt)) h
    go false e = refl
