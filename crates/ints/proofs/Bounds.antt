-- Bounds of an integer, as bounds of the naturals that it is the difference of; and of a sum.
use Prim.Native.Nat.{ℕ, ◌+◌, ◌≤◌}
use mathlib.Core.Path.{◌≡◌, sym, ◌∙◌}
use mathlib.Core.Bool.{false}
use native.Mathlib.Omega.{arith}
use lib.IntN.{ℤ, pos}
use lib.Signed.{◌≤ℤ◌}
use borrow.Author.Tests.{ltb-false, le-ltb}
use Rattle.ints.specs.Int.{◌⊖◌, ◌⊞◌, neg, lt}
use Rattle.ints.proofs.Laws.{diffs, plus_diff, lt_diff, lt-pos, pos-lt, lt_false, le-lt, by_diff}

pub most_out : (m a b : ℕ) → (a ⊖ b) ≤ℤ pos m → a ≤ m + b
most_out m a b h = ltb-false (m + b) a (sym (pos-lt m a b) ∙ le-lt (pos m) (a ⊖ b) h)

pub most_in : (m a b : ℕ) → a ≤ m + b → (a ⊖ b) ≤ℤ pos m
most_in m a b h = lt_false (pos m) (a ⊖ b) (pos-lt m a b ∙ le-ltb (m + b) a h)

-- a bound from below that is not negative
pub least_out : (m a b : ℕ) → pos m ≤ℤ (a ⊖ b) → m + b ≤ a
least_out m a b h = ltb-false a (m + b) (sym (lt-pos a b m) ∙ le-lt (a ⊖ b) (pos m) h)

-- one that is
pub low_out : (m a b : ℕ) → neg (pos m) ≤ℤ (a ⊖ b) → b ≤ a + m
low_out m a b h =
    let test : lt (a ⊖ b) (0 ⊖ m) ≡ false = simp diffs at (le-lt (a ⊖ b) (neg (pos m)) h) in
    omega (arith, ltb-false (a + m) (0 + b) (sym (lt_diff a b 0 m) ∙ test))

pub low_in : (m a b : ℕ) → b ≤ a + m → neg (pos m) ≤ℤ (a ⊖ b)
low_in m a b h = lt_false (a ⊖ b) (neg (pos m)) (simp diffs (lt_diff a b 0 m ∙ le-ltb (a + m) (0 + b) (omega arith)))

-- what holds of all pairs of differences holds of all pairs of integers
pub by_diffs : (P : ℤ → ℤ → Type 0) → ((a b c d : ℕ) → P (a ⊖ b) (c ⊖ d)) → (x y : ℤ) → P x y
by_diffs P f x y = by_diff (λ x. P x y) (λ a b. by_diff (P (a ⊖ b)) (f a b) y) x

pub sum_most : (m n : ℕ) (x y : ℤ) → x ≤ℤ pos m → y ≤ℤ pos n → (x ⊞ y) ≤ℤ pos (m + n)
sum_most m n =
    by_diffs (λ x y. x ≤ℤ pos m → y ≤ℤ pos n → (x ⊞ y) ≤ℤ pos (m + n))
    (λ a b c d hx hy.
    simp plus_diff (most_in (m + n) (a + c) (b + d) (omega (arith, most_out m a b hx, most_out n c d hy))))

pub sum_least : (m n : ℕ) (x y : ℤ) → neg (pos m) ≤ℤ x → neg (pos n) ≤ℤ y → neg (pos (m + n)) ≤ℤ (x ⊞ y)
sum_least m n =
    by_diffs (λ x y. neg (pos m) ≤ℤ x → neg (pos n) ≤ℤ y → neg (pos (m + n)) ≤ℤ (x ⊞ y))
    (λ a b c d hx hy.
    simp plus_diff (low_in (m + n) (a + c) (b + d) (omega (arith, low_out m a b hx, low_out n c d hy))))
