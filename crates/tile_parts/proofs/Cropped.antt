-- A part of a list of rows, copied row by row.
use Prim.Native.Nat.{ℕ, zero, suc, ◌+◌, ◌*◌, ◌≤◌, ◌<◌}
use mathlib.Core.Path.{◌≡◌, refl, sym, ap, ap₂, ◌∙◌}
use mathlib.Core.List.{List, ◌++◌, append_assoc}
use native.Mathlib.Nat.{add-mul, mul-le-mul}
use native.Mathlib.Numerals.{add-one}
use native.Mathlib.Omega.{arith}
use borrow.Rule.Slice.PartMut.{put_mid}
use lib.ListN.{length, take, drop, length-take, length-drop}
use Rattle.std.proofs.lemmas.List.{append-nil, take_all}
use Rattle.std.proofs.lemmas.Slice.{take-put_mid}
use Rattle.picture.specs.Plane.{Part, rect, crop}
use Rattle.picture.proofs.Index.{row_step}
use Rattle.tile_parts.specs.Parts.{Room, first_rows}

-- ---- where row y of a part lies: in a list of the part's own size, and in the list that the part lies in

pub own_row : (part : Part) {n y : ℕ} → n ≡ part.width * part.height → y < part.height
    → y * part.width + part.width ≤ n
own_row part long below = omega (arith, long, row_step part.width below)

module _ {A : Type 0} {part : Part} {stride : ℕ} {list : List A} (room : Room part stride list) where
  pub out_row : {y : ℕ} → y < part.height → (part.y + y) * stride + part.x + part.width ≤ length list
  out_row {y} below =
      omega (
        arith,
        room.long,
        room.columns,
        row_step stride {r = part.y + y} {q = room.rows} (omega (arith, room.down)),
      )

  -- the list is small
  pub room_small : length list ≤ 4294967296
  room_small = let most = mul-le-mul room.wide room.high in omega (arith, room.long)

-- ---- the rows that are copied

module _ {A : Type 0} (from : List A) (stride : ℕ) (part : Part) where
  -- where row y starts in the list that the part lies in
  abbrev pub row_start : ℕ → ℕ
  row_start y = (part.y + y) * stride + part.x

  pub rows_none : (to : List A) → take (0 * part.width) to ≡ first_rows from stride part 0
  unfolding first_rows
  rows_none to = let none : 0 * part.width ≡ 0 = omega arith in ap (λ (k : ℕ). take k to) none

  -- one more row, of n samples, written over k that stand behind those that are copied
  pub rows_more : (to row : List A) (y n k : ℕ) → n ≡ part.width → row ≡ take n (drop (row_start y) from)
      → row_start y + part.width ≤ length from → y * part.width ≤ length to
      → take (y * part.width) to ≡ first_rows from stride part y
      → take ((y + 1) * part.width) (put_mid (y * part.width) k to row) ≡ first_rows from stride part (y + 1)
  unfolding first_rows
  rows_more to row y n k wide is inside placed copied =
      let row_is : row ≡ take part.width (drop (row_start y) from) =
      is ∙ ap (λ (n : ℕ). take n (drop (row_start y) from)) wide in
      let long : length row ≡ part.width = rw row_is (simp (length-take, length-drop) (omega arith)) in
      take-put_mid (y * part.width) k to row ((y + 1) * part.width) (omega (arith, add-mul y 1 part.width)) placed
      ∙ ap₂ ◌++◌ copied row_is
      ∙ ap (first_rows from stride part) (sym (add-one y))

  pub rows_all : (to : List A) (y : ℕ) → length to ≡ part.width * part.height → y ≡ part.height
      → take (y * part.width) to ≡ first_rows from stride part y → to ≡ first_rows from stride part part.height
  rows_all to y long end copied =
      let all : length to ≤ y * part.width = omega (arith, ap (λ (k : ℕ). k * part.width) end) in
      sym (take_all _ to all) ∙ copied ∙ ap (first_rows from stride part) end

-- ---- of a list of numbers they are the definition's part

rect_more : (list : List ℕ) (stride start width n : ℕ)
    → rect list stride start width (suc n)
    ≡ rect list stride start width n ++ take width (drop (start + n * stride) list)
unfolding rect
rect_more list stride start width zero =
    append-nil _ ∙ ap (λ (k : ℕ). take width (drop k list)) (omega arith)
rect_more list stride start width (suc n) =
    let later : start + stride + n * stride ≡ start + suc n * stride = omega arith in
    ap (λ (r : List ℕ). take width (drop start list) ++ r) (rect_more list stride (start + stride) width n)
    ∙ sym
    (append_assoc (take width (drop start list)) (rect list stride (start + stride) width n)
    (take width (drop (start + stride + n * stride) list)))
    ∙ ap (λ (k : ℕ). rect list stride start width (suc n) ++ take width (drop k list)) later

rows_are : (list : List ℕ) (stride : ℕ) (part : Part) (n : ℕ)
    → first_rows list stride part n ≡ rect list stride (part.y * stride + part.x) part.width n
unfolding first_rows rect
rows_are list stride part zero = refl
rows_are list stride part (suc n) =
    let place : (part.y + n) * stride + part.x ≡ part.y * stride + part.x + n * stride =
    omega (arith, add-mul part.y n stride) in
    ap₂ ◌++◌ (rows_are list stride part n) (ap (λ (k : ℕ). take part.width (drop k list)) place)
    ∙ sym (rect_more list stride (part.y * stride + part.x) part.width n)

pub crop_is : (list : List ℕ) (stride : ℕ) (part : Part) → first_rows list stride part part.height ≡ crop list stride part
unfolding crop
crop_is list stride part = rows_are list stride part part.height
