-- A converted list byte by byte.
use Prim.Native.Nat.{ℕ, ◌+◌, ◌-◌, ◌*◌, ◌/◌, ◌%◌, ◌≤◌, ◌<◌}
use mathlib.Core.Path.{◌≡◌, sym, ap, ◌∙◌}
use mathlib.Core.Bool.{cond}
use mathlib.Core.List.{List, ◌++◌}
use mathlib.Core.Logic.{◌⊎◌, inl, inr}
use native.Mathlib.Omega.{arith}
use borrow.Author.Tests.{lt-ltb, le-ltb}
use lib.Dec.{ltb}
use lib.ListN.{length, get_or, drop, length-append, length-drop, get_or-append}
use lib.Seq.{ext_get_or, get_or-append-add, get_or-drop}
use Rattle.ints.proofs.Laws.{either}
use Rattle.picture.specs.Cell.{cell_byte}
use Rattle.picture.specs.Plane.{table}
use Rattle.picture.proofs.Tables.{get_d_tabulate, length-table}
use Rattle.conversion.specs.Converted.{converted_byte, converted}

-- byte k of a list whose first n records are converted
abbrev pub byte_after : List ℕ → ℕ → ℕ → ℕ
byte_after l n k = cond (ltb (k / 8) n) (converted_byte (cell_byte l (k / 8)) (k % 8)) (get_or l k 0)

module _ (l : List ℕ) where
  abbrev whole : List ℕ
  whole = table 8 (length l / 8) (λ b n. converted_byte (cell_byte l n) b)

  pub same_length : length (converted l) ≡ length l
  unfolding converted
  same_length =
      length-append whole _
      ∙ omega (
        arith,
        length-table 8 (length l / 8) (λ b n. converted_byte (cell_byte l n) b),
        length-drop (8 * (length l / 8)) l,
      )

  in_record : (k : ℕ) → k / 8 < length l / 8 → get_or (converted l) k 0 ≡ converted_byte (cell_byte l (k / 8)) (k % 8)
  unfolding converted table
  in_record k h =
      get_or-append whole (drop (8 * (length l / 8)) l) 0 k
      (omega (arith, length-table 8 (length l / 8) (λ b n. converted_byte (cell_byte l n) b)))
      ∙ get_d_tabulate (8 * (length l / 8)) (λ k. converted_byte (cell_byte l (k / 8)) (k % 8)) k (omega arith)

  past_records : (k : ℕ) → length l / 8 ≤ k / 8 → get_or (converted l) k 0 ≡ get_or l k 0
  unfolding converted
  past_records k h =
      let long = length-table 8 (length l / 8) (λ b n. converted_byte (cell_byte l n) b) in
      let from : ℕ = k - 8 * (length l / 8) in
      let there : k ≡ length whole + from = omega (arith, long) in
      let here : 8 * (length l / 8) + from ≡ k = omega arith in
      ap (λ (j : ℕ). get_or (whole ++ drop (8 * (length l / 8)) l) j 0) there
      ∙ get_or-append-add whole (drop (8 * (length l / 8)) l) from 0
      ∙ get_or-drop (8 * (length l / 8)) l from 0
      ∙ ap (λ (j : ℕ). get_or l j 0) here

  pub byte_is : (k : ℕ) → get_or (converted l) k 0 ≡ byte_after l (length l / 8) k
  byte_is k = go (either (k / 8) (length l / 8))
    where
      go : (k / 8 < length l / 8) ⊎ (length l / 8 ≤ k / 8) → get_or (converted l) k 0 ≡ byte_after l (length l / 8) k
      go (inl h) = rw (lt-ltb _ _ h) (in_record k h)
      go (inr h) = rw (le-ltb _ _ h) (past_records k h)

  -- a list with those bytes is the converted one
  pub is_converted : (m : List ℕ) → length m ≡ length l → ((k : ℕ) → get_or m k 0 ≡ byte_after l (length l / 8) k)
      → m ≡ converted l
  is_converted m long bytes = ext_get_or 0 m (converted l) (long ∙ sym same_length) (λ k h. bytes k ∙ sym (byte_is k))
