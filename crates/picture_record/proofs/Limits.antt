-- The lengths of a record that are within their limits.
-- Assumes nothing.
use Prim.Native.Nat.{ℕ, zero, suc, ◌+◌, ◌≤◌, ◌<◌}
use mathlib.Core.Path.{◌≡◌, refl}
use mathlib.Core.Bool.{true, false, and-false}
use mathlib.Core.List.{List}
use mathlib.Core.Logic.{◌⊎◌, inl, inr}
use native.Mathlib.Numerals.{add-one}
use native.Mathlib.Omega.{arith}
use borrow.Author.Tests.{le-leb, lt-leb}
use Rattle.ints.proofs.Laws.{either}
use Rattle.picture_record.specs.Head.{length_in, limit_of, within}

module _ (head : List ℕ) (k : ℕ) where
  pub none_yet : within head 0 ≡ true
  unfolding within
  none_yet = refl

  -- the lengths so far, and the next
  pub one_more : within head k ≡ true → length_in head k ≤ limit_of k → within head (k + 1) ≡ true
  unfolding within
  one_more before h = rw (add-one, before, le-leb (length_in head k) (limit_of k) h) refl

  -- one length past its limit is enough
  pub past : (n : ℕ) → k < n → limit_of k < length_in head k → within head n ≡ false
  unfolding within
  past zero below h = absurd (omega arith)
  past (suc n) below h = go (either k n) (λ before. past n before h)
    where
      go : (k < n) ⊎ (n ≤ k) → (k < n → within head n ≡ false) → within head (suc n) ≡ false
      go (inl before) earlier = rw (earlier before) refl
      go (inr after) earlier =
          let here : n ≡ k = omega arith in
          rw (here, lt-leb (length_in head k) (limit_of k) h, and-false) refl
