-- The sum of a plane, row by row, modulo any number.
use Rattle.std.proofs.Common.{◌≡◌, ℕ, ◌+◌, ◌*◌, ◌%◌, ◌^◌, ◌<◌, ◌≤◌, Bool, true, false, cond, ltb, List, get_or}
use Rattle.std.proofs.Common.{sym, refl, ap, ◌∙◌, add-zero, add_assoc, zero-add, add-one, le-ltb, lt-ltb}
use native.Mathlib.Nat.{mod-add-mod}
use lib.Bits.{bit_xor}
use Rattle.ints.proofs.Sums.{sum_both, sum_ext}
use Rattle.ints.specs.Sum.{sum}
use Rattle.picture.specs.Plane.{at}
use Rattle.checksum.specs.Checksum.{checksum, exact_sum, joining, mask}
use Rattle.checksum.specs.Rows.{fold, part, parts_sum, row_sum}
use Rattle.checksum.proofs.Masks.{mask_folds}

-- a sum that is kept modulo m, with another number added
pub wrapped_on : (m before so_far more : ℕ) {s : ℕ} → s ≡ (before + so_far) % m
    → (s + more) % m ≡ (before + (so_far + more)) % m
wrapped_on m before so_far more e =
    ap (λ (n : ℕ). (n + more) % m) e ∙ mod-add-mod (before + so_far) m more
    ∙ ap (λ (n : ℕ). n % m) (add_assoc before so_far more)

-- with the next number of a sum
pub wrapped_more : (m before : ℕ) (f : ℕ → ℕ) {s : ℕ} (n : ℕ) → s ≡ (before + sum n f) % m
    → (s + f n) % m ≡ (before + sum (n + 1) f) % m
wrapped_more m before f n e =
    wrapped_on m before (sum n f) (f n) e ∙ ap (λ (k : ℕ). (before + sum k f) % m) (sym (add-one n))

-- ---- a row

module _ (high : Bool) (plane : List ℕ) (start row : ℕ) where
  -- what sample x adds
  abbrev pub part_at : ℕ → ℕ
  part_at x = bit_xor (part high (get_or plane (start + x) 0)) (bit_xor (fold x) row)

  pub parts_more : (m before : ℕ) {s : ℕ} (x : ℕ) → s ≡ (before + parts_sum high plane start x row) % m
      → (s + part_at x) % m ≡ (before + parts_sum high plane start (x + 1) row) % m
  unfolding parts_sum
  parts_more m before x e = wrapped_more m before part_at x e

  pub no_parts : parts_sum high plane start 0 row ≡ 0
  unfolding parts_sum
  no_parts = refl

module _ (plane : List ℕ) (width y : ℕ) where
  -- the low bytes and the high parts of row y
  abbrev pub parts : Bool → ℕ
  parts high = parts_sum high plane (y * width) width (fold y)

  apart : (deep : Bool) (low high : ℕ → ℕ)
      → sum width (λ x. low x + cond deep (high x) 0) ≡ sum width low + cond deep (sum width high) 0
  apart true low high = sum_both width low high
  apart false low high =
      sum_ext width (λ x. low x + 0) low (λ x _. add-zero (low x)) ∙ sym (add-zero (sum width low))

  pub row_is : (depth : ℕ)
      → row_sum depth (at plane width) width y ≡ parts false + cond (ltb 8 depth) (parts true) 0
  unfolding row_sum parts_sum at
  row_is depth =
      let masked : ℕ → ℕ → ℕ = λ x m. joining depth (get_or plane (y * width + x) 0) m in
      sum_ext width (λ x. masked x (mask x y)) (λ x. masked x (bit_xor (fold x) (fold y)))
      (λ x _. ap (masked x) (mask_folds x y))
      ∙ apart (ltb 8 depth) (part_at false plane (y * width) (fold y)) (part_at true plane (y * width) (fold y))

  -- with row y, at depth 8 and above it
  module _ (m before depth : ℕ) where
    pub row_of_bytes : {r : ℕ} → depth ≤ 8 → r ≡ (before + parts false) % m
        → r ≡ (before + row_sum depth (at plane width) width y) % m
    row_of_bytes h e =
        let row : row_sum depth (at plane width) width y ≡ parts false + 0 = rw (le-ltb 8 depth h) at (row_is depth) in
        e ∙ ap (λ (n : ℕ). (before + n) % m) (sym (row ∙ add-zero (parts false)))

    pub row_of_parts : {low r : ℕ} → 8 < depth → low ≡ (before + parts false) % m → r ≡ (low + parts true) % m
        → r ≡ (before + row_sum depth (at plane width) width y) % m
    row_of_parts h e f =
        let row : row_sum depth (at plane width) width y ≡ parts false + parts true =
        rw (lt-ltb 8 depth h) at (row_is depth) in
        f ∙ wrapped_on m before (parts false) (parts true) e ∙ ap (λ (n : ℕ). (before + n) % m) (sym row)

-- ---- a plane

module _ (depth : ℕ) (plane : List ℕ) (width : ℕ) where
  -- the first y rows
  abbrev pub rows_sum : ℕ → ℕ
  rows_sum y = sum y (row_sum depth (at plane width) width)

  pub rows_more : (m : ℕ) {s : ℕ} (y : ℕ) → s ≡ rows_sum y % m
      → (s + row_sum depth (at plane width) width y) % m ≡ rows_sum (y + 1) % m
  rows_more m y e =
      let rows = row_sum depth (at plane width) width in
      wrapped_more m 0 rows y (e ∙ ap (λ (n : ℕ). n % m) (sym (zero-add (rows_sum y))))
      ∙ ap (λ (n : ℕ). n % m) (zero-add (rows_sum (y + 1)))

  pub rows_all : (height : ℕ) → rows_sum height % 2 ^ 32 ≡ checksum depth width height (at plane width)
  unfolding checksum exact_sum row_sum
  rows_all height = refl
