-- Records converted in place, one after another.
use Prim.Native.Nat.{ℕ, zero, suc, ◌+◌, ◌*◌, ◌/◌, ◌%◌, ◌≤◌, ◌<◌}
use mathlib.Core.Path.{◌≡◌, refl, sym, ap, ap₂, ◌∙◌}
use mathlib.Core.Bool.{Bool, true, false, cond, not, ◌&&◌, or-false}
use mathlib.Core.List.{List}
use mathlib.Core.Logic.{◌⊎◌, inl, inr}
use native.Mathlib.Omega.{arith}
use borrow.Author.Tests.{eqb-true, eqb-false, lt-ltb, le-ltb, ne_eqb}
use lib.Dec.{ltb, eqb}
use lib.ListN.{length, get_or, set, length-set}
use lib.Seq.{get_or-set_same, get_or-set_other}
use Rattle.ints.proofs.Laws.{either}
use Rattle.picture.specs.Causes.{vertical_edgeless}
use Rattle.picture.specs.Cell.{bit, cell_byte}
use Rattle.conversion.specs.Converted.{converted_byte, converted}
use Rattle.conversion.specs.Steps.{kept_byte, record_converted}
use Rattle.conversion.proofs.Bytes.{byte_after, is_converted}

-- ---- one byte

-- to keep a strength where it has an edge is to zero it where it is above 0 and has none
strength_is : (edge : Bool) (bs : ℕ) → cond edge bs 0 ≡ cond (ltb 0 bs && not edge) 0 bs
strength_is true zero = refl
strength_is true (suc bs) = rw (lt-ltb 0 (suc bs) (omega arith))
strength_is false zero = refl
strength_is false (suc bs) = rw (lt-ltb 0 (suc bs) (omega arith))

pub vertical_byte : (byte : ℕ → ℕ) → converted_byte byte 2 ≡ cond (bit (byte 1) 0) (byte 2) 0
vertical_byte byte = rw (or-false (vertical_edgeless byte)) (sym (strength_is (bit (byte 1) 0) (byte 2)))

pub horizontal_byte : (byte : ℕ → ℕ) → converted_byte byte 3 ≡ cond (bit (byte 1) 1) (byte 3) 0
horizontal_byte byte = sym (strength_is (bit (byte 1) 1) (byte 3))

pub other_byte : (byte : ℕ → ℕ) (b : ℕ) → eqb b 2 ≡ false → eqb b 3 ≡ false → converted_byte byte b ≡ byte b
other_byte byte b two three = rw (two, three) refl

-- ---- the first n records of a list

pub record Through (l : List ℕ) (n : ℕ) (m : List ℕ) : Type 0 where
  pub long : length m ≡ length l
  pub bytes : (k : ℕ) → get_or m k 0 ≡ byte_after l n k

pub none_yet : (l : List ℕ) → Through l 0 l
none_yet l = record { long = refl; bytes = λ k. rw (le-ltb (k / 8) 0 (omega arith)) }

pub all_through : (l m : List ℕ) (n : ℕ) → n ≡ length l / 8 → Through l n m → m ≡ converted l
all_through l m n e t = is_converted l m t.long (λ k. t.bytes k ∙ ap (λ (j : ℕ). byte_after l j k) e)

module _ (l m : List ℕ) (n : ℕ) (room : 8 * n + 8 ≤ length l) (t : Through l n m) where
  -- record n is as it was
  not_yet : (b : ℕ) → b < 8 → cell_byte m n b ≡ cell_byte l n b
  not_yet b h = t.bytes (8 * n + b) ∙ rw (le-ltb ((8 * n + b) / 8) n (omega arith))

  vertical_kept : kept_byte m n 0 2 ≡ converted_byte (cell_byte l n) 2
  vertical_kept = rw (not_yet 1 (omega arith), not_yet 2 (omega arith)) (sym (vertical_byte (cell_byte l n)))

  horizontal_kept : kept_byte m n 1 3 ≡ converted_byte (cell_byte l n) 3
  horizontal_kept = rw (not_yet 1 (omega arith), not_yet 3 (omega arith)) (sym (horizontal_byte (cell_byte l n)))

  -- a byte of record n, once it is converted
  by_now : (b : ℕ) → b < 8 → converted_byte (cell_byte l n) b ≡ byte_after l (n + 1) (8 * n + b)
  by_now b h =
      let record_is : n ≡ (8 * n + b) / 8 = omega arith in
      let byte_is : b ≡ (8 * n + b) % 8 = omega arith in
      ap₂ (λ (r j : ℕ). converted_byte (cell_byte l r) j) record_is byte_is
      ∙ rw (lt-ltb ((8 * n + b) / 8) (n + 1) (omega arith))

  -- every other byte stays
  stays : (k : ℕ) → (k ≡ 8 * n + 2 → ⊥) → (k ≡ 8 * n + 3 → ⊥) → byte_after l n k ≡ byte_after l (n + 1) k
  stays k two three = go (either (k / 8) n) (either (k / 8) (n + 1))
    where
      go : (k / 8 < n) ⊎ (n ≤ k / 8) → (k / 8 < n + 1) ⊎ (n + 1 ≤ k / 8) → byte_after l n k ≡ byte_after l (n + 1) k
      go (inl h) _ = rw (lt-ltb _ _ h, lt-ltb (k / 8) (n + 1) (omega arith))
      go (inr h) (inr g) = rw (le-ltb _ _ h, le-ltb _ _ g)
      go (inr h) (inl g) =
          let here : k ≡ 8 * (k / 8) + k % 8 = omega arith in
          rw (le-ltb _ _ h, lt-ltb _ _ g)
          (ap (λ (j : ℕ). get_or l j 0) here
          ∙ sym (other_byte (cell_byte l (k / 8)) (k % 8) (ne_eqb (k % 8) 2 (λ e. two (omega arith)))
          (ne_eqb (k % 8) 3 (λ e. three (omega arith)))))

  abbrev once : List ℕ
  once = set m (8 * n + 2) (kept_byte m n 0 2)

  byte_now : (k : ℕ) → get_or (record_converted m n) k 0 ≡ byte_after l (n + 1) k
  byte_now k = go (eqb k (8 * n + 3)) refl (eqb k (8 * n + 2)) refl
    where
      go : (a : Bool) → eqb k (8 * n + 3) ≡ a → (b : Bool) → eqb k (8 * n + 2) ≡ b
          → get_or (record_converted m n) k 0 ≡ byte_after l (n + 1) k
      go true three b _ =
          let e : k ≡ 8 * n + 3 = eqb-true _ _ three in
          ap (λ (j : ℕ). get_or (record_converted m n) j 0) e
          ∙ get_or-set_same once (8 * n + 3) _ 0 (omega (arith, length-set m (8 * n + 2) (kept_byte m n 0 2), t.long))
          ∙ horizontal_kept
          ∙ by_now 3 (omega arith)
          ∙ ap (byte_after l (n + 1)) (sym e)
      go false three true two =
          let e : k ≡ 8 * n + 2 = eqb-true _ _ two in
          get_or-set_other once (8 * n + 3) k _ 0 (eqb-false _ _ three)
          ∙ ap (λ (j : ℕ). get_or once j 0) e
          ∙ get_or-set_same m (8 * n + 2) _ 0 (omega (arith, t.long))
          ∙ vertical_kept
          ∙ by_now 2 (omega arith)
          ∙ ap (byte_after l (n + 1)) (sym e)
      go false three false two =
          get_or-set_other once (8 * n + 3) k _ 0 (eqb-false _ _ three)
          ∙ get_or-set_other m (8 * n + 2) k _ 0 (eqb-false _ _ two)
          ∙ t.bytes k
          ∙ stays k (eqb-false _ _ two) (eqb-false _ _ three)

  pub one_more : Through l (n + 1) (record_converted m n)
  one_more = record {
    long = length-set once (8 * n + 3) _ ∙ length-set m (8 * n + 2) _ ∙ t.long;
    bytes = byte_now;
  }
