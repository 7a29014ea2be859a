-- The count of differing samples, sample by sample and row by row.
use Prim.Native.Nat.{ℕ, zero, suc, ◌+◌, ◌*◌, ◌≤◌, ◌<◌}
use mathlib.Core.Path.{◌≡◌, sym, ap, ap₂, ◌∙◌}
use mathlib.Core.Bool.{Bool, true, false, cond}
use mathlib.Core.List.{List}
use native.Mathlib.Nat.{add_comm, mul-le-mul}
use native.Mathlib.Numerals.{add-one}
use native.Mathlib.Omega.{arith}
use lib.Dec.{eqb}
use lib.ListN.{length, get_or, take, drop, length-take, length-drop}
use lib.Seq.{get_or-drop, get_or-take}
use Rattle.ints.proofs.Sums.{sum_ext}
use Rattle.ints.specs.Sum.{sum}
use Rattle.filter.specs.Count.{differ, differing}
use Rattle.picture.specs.Plane.{Part, at}
use Rattle.tiles_apart.proofs.Parts.{index}
use Rattle.tile_parts.specs.Parts.{Room, row_differences}

differ_most : (m n : ℕ) → differ m n ≤ 1
differ_most m n = go (eqb m n)
  where
    go : (t : Bool) → cond t 0 1 ≤ 1
    go true = omega arith
    go false = omega arith

-- ---- a row

-- a row has no more than its samples
row_few : (own out : List ℕ) {r : ℕ} → r ≡ row_differences own out → r ≤ length own
unfolding row_differences
row_few own out e = omega (arith, most (length own))
  where
    most : (n : ℕ) → sum n (λ x. differ (get_or own x 0) (get_or out x 0)) ≤ n
    most zero = omega arith
    most (suc n) = omega (arith, most n, differ_most (get_or own n 0) (get_or out n 0))

-- ---- a plane

module _ (cut out : List ℕ) (stride : ℕ) (part : Part) where
  -- the first y rows
  abbrev pub rows_to : ℕ → ℕ
  rows_to y =
      sum y
      (λ y. sum part.width (λ x. differ (at cut part.width x y) (at out stride (x + part.x) (y + part.y))))

  -- row y of each
  abbrev pub cut_row : ℕ → List ℕ
  cut_row y = take part.width (drop (y * part.width) cut)

  abbrev pub out_row_at : ℕ → List ℕ
  out_row_at y = take part.width (drop ((part.y + y) * stride + part.x) out)

  -- the rows as the code reads them, i samples and j
  pub rows_read : (y : ℕ) {r i j : ℕ} → i ≡ part.width → j ≡ part.width
      → r ≡ row_differences (take i (drop (y * part.width) cut)) (take j (drop ((part.y + y) * stride + part.x) out))
      → r ≡ row_differences (cut_row y) (out_row_at y)
  rows_read y ei ej e =
      e
      ∙ (λ k. row_differences (take (ei k) (drop (y * part.width) cut))
      (take (ej k) (drop ((part.y + y) * stride + part.x) out)))

  pub rows_few : (y : ℕ) {r : ℕ} → r ≡ row_differences (cut_row y) (out_row_at y) → r ≤ part.width
  rows_few y e = omega (arith, row_few (cut_row y) (out_row_at y) e, length-take part.width (drop (y * part.width) cut))

  pub rows_more : {n r : ℕ} (y : ℕ) → y * part.width + part.width ≤ length cut → n ≡ rows_to y
      → r ≡ row_differences (cut_row y) (out_row_at y) → n + r ≡ rows_to (y + 1)
  unfolding row_differences at
  rows_more y inside e h =
      let same : (part.y + y) * stride ≡ (y + part.y) * stride =
      ap (λ (k : ℕ). k * stride) (add_comm part.y y) in
      let long : length (cut_row y) ≡ part.width = simp (length-take, length-drop) (omega arith) in
      let one : (x : ℕ) → x < part.width
      → differ (get_or (cut_row y) x 0) (get_or (out_row_at y) x 0)
      ≡ differ (at cut part.width x y) (at out stride (x + part.x) (y + part.y)) =
      λ x hx. ap₂ differ
      (get_or-take part.width (drop (y * part.width) cut) x 0 hx ∙ get_or-drop (y * part.width) cut x 0)
      (get_or-take part.width (drop ((part.y + y) * stride + part.x) out) x 0 hx
      ∙ get_or-drop ((part.y + y) * stride + part.x) out x 0
      ∙ index out (omega (arith, same))) in
      ap₂ ◌+◌ e (h
      ∙ ap (λ (k : ℕ). sum k (λ x. differ (get_or (cut_row y) x 0) (get_or (out_row_at y) x 0))) long
      ∙ sum_ext part.width _ _ one)
      ∙ ap rows_to (sym (add-one y))

  pub rows_all : {n y : ℕ} → y ≡ part.height → n ≡ rows_to y → n ≡ differing (at cut part.width) (at out stride) part
  unfolding differing
  rows_all e h = h ∙ ap rows_to e

-- a list of a part's own size is small
pub cut_small : (cut : List ℕ) {out : List ℕ} {stride : ℕ} {part : Part} → Room part stride out
    → length cut ≡ part.width * part.height → length cut ≤ 4294967296
cut_small cut {part = part} room long =
    let w : part.width ≤ 65536 = omega (arith, room.columns, room.wide) in
    let h : part.height ≤ 65536 = omega (arith, room.down, room.high) in
    let m : part.width * part.height ≤ 65536 * 65536 = mul-le-mul w h in
    omega (arith, long)
