-- What the conversion makes of a list: record by record, and part by part.
use Prim.Native.Nat.{ℕ, ◌+◌, ◌-◌, ◌*◌, ◌/◌, ◌%◌, ◌≤◌, ◌<◌}
use mathlib.Core.Path.{◌≡◌, refl, sym, ap, ap₂, ◌∙◌}
use mathlib.Core.Bool.{Bool, true, false, cond, not, ◌&&◌, ◌||◌, and-false}
use mathlib.Core.List.{List, ◌++◌}
use mathlib.Core.Logic.{◌⊎◌, inl, inr}
use native.Mathlib.Omega.{arith}
use borrow.Author.Tests.{lt-ltb, le-ltb}
use lib.Dec.{ltb, eqb}
use lib.ListN.{length, get_or, length-append, get_or-append}
use lib.Seq.{get_or-append-add}
use Rattle.ints.proofs.Laws.{either}
use Rattle.picture.specs.Accepted.{StrengthsOk}
use Rattle.picture.specs.Cell.{bit, cell_byte}
use Rattle.picture.proofs.Accepted.{strengths_in, strengths_same}
use Rattle.conversion.specs.Converted.{converted_byte, converted}
use Rattle.conversion.proofs.Bytes.{byte_after, byte_is, is_converted, same_length}
use Rattle.conversion.proofs.Records.{vertical_byte, horizontal_byte}
use Rattle.converted_cells.specs.ConvertedCells.{InRule, ListsConverted}

-- ---- one record

-- what is above 0 was kept, since its edge is there
has_edge : (edge : Bool) (bs : ℕ) → 0 < cond edge bs 0 → edge ≡ true
has_edge true bs h = refl
has_edge false bs h = absurd (omega arith)

-- a converted record is in rule
record_in_rule : (byte : ℕ → ℕ) → StrengthsOk (converted_byte byte)
record_in_rule byte = record {
  vertical = λ some. has_edge (bit (byte 1) 0) (byte 2) (omega (arith, vertical_byte byte));
  horizontal = λ some. has_edge (bit (byte 1) 1) (byte 3) (omega (arith, horizontal_byte byte));
}

-- a record in rule stays
record_stays : (byte : ℕ → ℕ) → StrengthsOk byte → (b : ℕ) → converted_byte byte b ≡ byte b
record_stays byte ok b =
    let obeyed = strengths_in byte ok in
    rw (obeyed.0, obeyed.1.0, and-false (eqb b 2), and-false (eqb b 3)) refl

-- records of the same bytes are converted alike
alike : (f g : ℕ → ℕ) → ((b : ℕ) → b < 8 → f b ≡ g b) → (b : ℕ) → b < 8 → converted_byte f b ≡ converted_byte g b
alike f g e b h = λ i.
    cond
    ((eqb b 2 && (ltb 0 (e 2 (omega arith) i) && not (bit (e 1 (omega arith) i) 0)))
    || (eqb b 3 && (ltb 0 (e 3 (omega arith) i) && not (bit (e 1 (omega arith) i) 1))))
    0 (e b h i)

-- ---- a list

module _ (l : List ℕ) where
  -- byte b of record n
  pub record_byte : (n b : ℕ) → b < 8
      → cell_byte (converted l) n b ≡ cond (ltb n (length l / 8)) (converted_byte (cell_byte l n) b) (cell_byte l n b)
  record_byte n b h =
      let record_is : (8 * n + b) / 8 ≡ n = omega arith in
      let byte_of : (8 * n + b) % 8 ≡ b = omega arith in
      byte_is l (8 * n + b)
      ∙ ap₂ (λ (r j : ℕ). cond (ltb r (length l / 8)) (converted_byte (cell_byte l r) j) (cell_byte l n b)) record_is
      byte_of

  in_rule : InRule (converted l)
  in_rule n h =
      let there : n < length l / 8 = omega (arith, same_length l) in
      strengths_same (cell_byte (converted l) n) (converted_byte (cell_byte l n))
      (λ b hb. record_byte n b hb ∙ rw (lt-ltb _ _ there)) (record_in_rule (cell_byte l n))

  stays : InRule l → converted l ≡ l
  stays ok = sym (is_converted l l refl byte)
    where
      byte : (k : ℕ) → get_or l k 0 ≡ byte_after l (length l / 8) k
      byte k = go (either (k / 8) (length l / 8))
        where
          go : (k / 8 < length l / 8) ⊎ (length l / 8 ≤ k / 8) → get_or l k 0 ≡ byte_after l (length l / 8) k
          go (inl h) =
              let here : k ≡ 8 * (k / 8) + k % 8 = omega arith in
              rw (lt-ltb _ _ h)
              (ap (λ (j : ℕ). get_or l j 0) here ∙ sym (record_stays (cell_byte l (k / 8)) (ok (k / 8) h) (k % 8)))
          go (inr h) = rw (le-ltb _ _ h)

-- ---- two parts

module _ (a b : List ℕ) (whole : length a % 8 ≡ 0) where
  abbrev joined : List ℕ
  joined = converted a ++ converted b

  long : length joined ≡ length (a ++ b)
  long =
      length-append (converted a) (converted b)
      ∙ ap₂ (λ (m n : ℕ). m + n) (same_length a) (same_length b)
      ∙ sym (length-append a b)

  -- a byte of the first part
  first : (k : ℕ) → k < length a → get_or joined k 0 ≡ byte_after (a ++ b) (length (a ++ b) / 8) k
  first k h =
      let inside : k / 8 < length a / 8 = omega (arith, whole) in
      let inside_both : k / 8 < length (a ++ b) / 8 = omega (arith, length-append a b) in
      get_or-append (converted a) (converted b) 0 k (omega (arith, same_length a))
      ∙ byte_is a k
      ∙ rw (lt-ltb _ _ inside, lt-ltb _ _ inside_both)
      (alike (cell_byte a (k / 8)) (cell_byte (a ++ b) (k / 8))
      (λ j hj. sym (get_or-append a b 0 (8 * (k / 8) + j) (omega (arith, whole)))) (k % 8) (omega arith))

  -- a byte of the second, which begins with a record
  second : (j : ℕ)
      → get_or joined (length (converted a) + j) 0 ≡ byte_after (a ++ b) (length (a ++ b) / 8) (length a + j)
  second j =
      get_or-append-add (converted a) (converted b) j 0 ∙ byte_is b j ∙ moved (either (j / 8) (length b / 8))
    where
      bytes : (n i : ℕ) → cell_byte b n i ≡ cell_byte (a ++ b) (length a / 8 + n) i
      bytes n i =
          let there : length a + (8 * n + i) ≡ 8 * (length a / 8 + n) + i = omega (arith, whole) in
          sym (get_or-append-add a b (8 * n + i) 0) ∙ ap (λ (m : ℕ). get_or (a ++ b) m 0) there

      moved : (j / 8 < length b / 8) ⊎ (length b / 8 ≤ j / 8)
          → byte_after b (length b / 8) j ≡ byte_after (a ++ b) (length (a ++ b) / 8) (length a + j)
      moved (inl h) =
          let record_is : length a / 8 + j / 8 ≡ (length a + j) / 8 = omega (arith, whole) in
          let byte_of : j % 8 ≡ (length a + j) % 8 = omega (arith, whole) in
          let there : (length a + j) / 8 < length (a ++ b) / 8 = omega (arith, whole, length-append a b) in
          rw (lt-ltb _ _ h, lt-ltb _ _ there)
          (alike (cell_byte b (j / 8)) (cell_byte (a ++ b) (length a / 8 + j / 8)) (λ i hi. bytes (j / 8) i) (j % 8)
          (omega arith)
          ∙ ap₂ (λ (r i : ℕ). converted_byte (cell_byte (a ++ b) r) i) record_is byte_of)
      moved (inr h) =
          let past : length (a ++ b) / 8 ≤ (length a + j) / 8 = omega (arith, whole, length-append a b) in
          rw (le-ltb _ _ h, le-ltb _ _ past) (sym (get_or-append-add a b j 0))

  in_parts : converted (a ++ b) ≡ converted a ++ converted b
  in_parts = sym (is_converted (a ++ b) joined long byte)
    where
      byte : (k : ℕ) → get_or joined k 0 ≡ byte_after (a ++ b) (length (a ++ b) / 8) k
      byte k = go (either k (length a))
        where
          go : (k < length a) ⊎ (length a ≤ k) → get_or joined k 0 ≡ byte_after (a ++ b) (length (a ++ b) / 8) k
          go (inl h) = first k h
          go (inr h) =
              let from : ℕ = k - length a in
              let here : k ≡ length (converted a) + from = omega (arith, same_length a) in
              let there : length a + from ≡ k = omega arith in
              ap (λ (m : ℕ). get_or joined m 0) here
              ∙ second from
              ∙ ap (byte_after (a ++ b) (length (a ++ b) / 8)) there

pub lists_converted : ListsConverted
lists_converted = record {
  stays = stays;
  in_rule = in_rule;
  once = λ l. stays (converted l) (in_rule l);
  in_parts = in_parts;
}
