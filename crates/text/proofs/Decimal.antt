-- Laws of `decimal`: its two cases, how many digits there are, and some figures. Assumes nothing.
use mathlib.Core.Path.{◌≡◌, refl}
use mathlib.Core.Logic.{◌⊎◌, inl, inr, ⊎_elim}
use mathlib.Core.List.{[], ◌∷◌, ◌++◌}
use Prim.Native.Nat.{ℕ, zero, suc, ◌+◌, ◌/◌, ◌%◌, ◌^◌, ◌≤◌, ◌<◌}
use native.Mathlib.Omega.{arith}
use native.Mathlib.Decide.{dec_lt}
use lib.ListN.{length, length-append}
use borrow.Author.Tests.{lt-ltb, le-ltb}
use Rattle.text.specs.Text.{decimal_in, decimal}

small_or_more : (n : ℕ) → (n < 10) ⊎ (10 ≤ n)
small_or_more n = elim (dec_lt n 10) [ yes h ↦ inl h | no h ↦ inr (omega arith) ]

-- more turns than are needed change nothing
enough : (f g n : ℕ) → n < f → n < g → decimal_in f n ≡ decimal_in g n
unfolding decimal_in
enough zero g n hf hg = absurd (omega arith)
enough (suc f) zero n hf hg = absurd (omega arith)
enough (suc f) (suc g) n hf hg =
    ⊎_elim
    (λ (h : n < 10). rw (lt-ltb n 10, decimal_in))
    (λ (h : 10 ≤ n). rw (le-ltb n 10, decimal_in, enough f g (n / 10) (omega arith) (omega arith)))
    (small_or_more n)

pub decimal_small : {n : ℕ} → n < 10 → decimal n ≡ (48 + n) ∷ []
unfolding decimal decimal_in
decimal_small {n} h = rw (lt-ltb n 10, decimal_in)

pub decimal_more : {n : ℕ} → 10 ≤ n → decimal n ≡ decimal (n / 10) ++ ((48 + n % 10) ∷ [])
unfolding decimal decimal_in
decimal_more {n} h = rw (le-ltb n 10, decimal_in, enough n (suc (n / 10)) (n / 10) (omega arith) (omega arith))

pub length_more : {n : ℕ} → 10 ≤ n → length (decimal n) ≡ length (decimal (n / 10)) + 1
length_more h = rw (decimal_more h, length-append)

pub decimal_some : (n : ℕ) → 0 < length (decimal n)
decimal_some n =
    ⊎_elim
    (λ (h : n < 10). rw (decimal_small h) (omega arith))
    (λ (h : 10 ≤ n). omega (arith, length_more h))
    (small_or_more n)

-- a number below 10 ^ k has k digits at most, for k from 1 on
decimal_width : (k n : ℕ) → n < 10 ^ suc k → length (decimal n) ≤ suc k
decimal_width zero n h = rw (decimal_small h) (omega arith)
decimal_width (suc k) n h =
    ⊎_elim
    (λ (s : n < 10). rw (decimal_small s) (omega arith))
    (λ (m : 10 ≤ n). omega (arith, length_more m, decimal_width k (n / 10) (omega arith)))
    (small_or_more n)

pub decimal_short : {n : ℕ} → n < 65536 → length (decimal n) ≤ 5
decimal_short h = decimal_width 4 _ (omega arith)

-- * figures to compare with: the definition computes to them
pub figures :
    (decimal 0 ≡ 48 ∷ [])
    × (decimal 9 ≡ 57 ∷ [])
    × (decimal 10 ≡ 49 ∷ 48 ∷ [])
    × (decimal 99 ≡ 57 ∷ 57 ∷ [])
    × (decimal 100 ≡ 49 ∷ 48 ∷ 48 ∷ [])
    × (decimal 65535 ≡ 54 ∷ 53 ∷ 53 ∷ 51 ∷ 53 ∷ [])
unfolding decimal decimal_in
figures = (refl, refl, refl, refl, refl, refl)
