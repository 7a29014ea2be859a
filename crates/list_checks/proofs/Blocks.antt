-- The samples above the largest, and blocks of samples that are passed over by one test of their bits.
use Rattle.std.proofs.Common.{ℕ, zero, suc, ◌+◌, ◌-◌, ◌*◌, ◌/◌, ◌%◌, ◌≤◌, ◌<◌, ◌≡◌, false, List, [], ◌∷◌}
use Rattle.std.proofs.Common.{length, get_or, take, drop, Option, Some, None, arith}
use Rattle.std.proofs.lemmas.List.{get_or-take, get_or-drop, length-take-le, length-drop}
use Rattle.std.specs.List.{fold, slice_range}
use Rattle.std.specs.Option.{MatchOption, unwrap_or}
use mathlib.Core.Path.{subst}
use native.Mathlib.Nat.{le_trans}
use borrow.Author.Tests.{le-ltb}
use lib.Bits.{bit_or, and_le_l, and_le_r, or_add_and}
use Rattle.list_checks.specs.Samples.{above}

-- the bits of two numbers are not below either
bits_left : (a b : ℕ) → a ≤ bit_or a b
bits_left a b = omega (arith, or_add_and a b, and_le_r a b)

bits_right : (a b : ℕ) → b ≤ bit_or a b
bits_right a b = omega (arith, or_add_and a b, and_le_l a b)

-- the bits of a list are not below those that it begins with, nor below one of its numbers
fold_least : (xs : List ℕ) (b : ℕ) → b ≤ fold bit_or b xs
fold_least [] b = omega arith
fold_least (x ∷ xs) b = le_trans (bits_left b x) (fold_least xs (bit_or b x))

fold_most : (xs : List ℕ) (b k : ℕ) → k < length xs → get_or xs k 0 ≤ fold bit_or b xs
fold_most [] b k h = absurd (omega arith)
fold_most (x ∷ xs) b zero h = le_trans (bits_right b x) (fold_least xs (bit_or b x))
fold_most (x ∷ xs) b (suc k) h = fold_most xs (bit_or b x) k (omega arith)

module _ (l : List ℕ) (largest : ℕ) where
  -- the bits of block n are not above the largest
  abbrev pub Low : ℕ → Type 0
  Low n = fold bit_or 0 (slice_range l (256 * n) (256 * n + 256)) ≤ largest

  -- then no sample of it is
  block_low : (n : ℕ) → 256 * n + 256 ≤ length l → Low n → (j : ℕ) → j < 256 → get_or l (256 * n + j) 0 ≤ largest
  block_low n room low j h =
      let block = drop (256 * n) l in
      let size : 256 * n + 256 - 256 * n ≡ 256 = omega arith in
      let long : length (take 256 block) ≡ 256 =
      length-take-le 256 block (omega (arith, length-drop (256 * n) l)) in
      let most : get_or (take 256 block) j 0 ≤ largest =
      le_trans (fold_most (take 256 block) 0 j (omega arith)) (rw size at low) in
      omega (arith, most, get_or-take 256 block j 0 h, get_or-drop (256 * n) l j 0)

  low_at : (k : ℕ) → 256 * (k / 256) + 256 ≤ length l → Low (k / 256) → (above largest l).bad k ≡ false
  low_at k room low =
      let there : 256 * (k / 256) + k % 256 ≡ k = omega arith in
      let most = block_low (k / 256) room low (k % 256) (omega arith) in
      le-ltb largest (get_or l k 0) (subst (λ (i : ℕ). get_or l i 0 ≤ largest) there most)

  -- no sample before the first block that is not passed over is above the largest
  pub passed_low : (r : Option ℕ) {p : ℕ}
      → MatchOption r ((n : ℕ) → 0 ≤ n → n < length l / 256 → Low n)
      (λ (i : ℕ). (0 ≤ i) × (i < length l / 256) × Unit {0} × ((n : ℕ) → 0 ≤ n → n < i → Low n))
      → p ≡ unwrap_or r (length l / 256) → (k : ℕ) → k < 256 * p → (above largest l).bad k ≡ false
  passed_low None h e k hk = low_at k (omega arith) (h (k / 256) (omega arith) (omega arith))
  passed_low (Some i) h e k hk = low_at k (omega arith) (h.3 (k / 256) (omega arith) (omega arith))
