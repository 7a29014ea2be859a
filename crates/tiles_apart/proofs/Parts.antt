-- A part of a list of rows: how long it is, and what stands in it.
use Prim.Native.Nat.{ℕ, zero, suc, ◌+◌, ◌*◌, ◌/◌, ◌%◌, ◌≤◌, ◌<◌}
use mathlib.Core.Path.{◌≡◌, ap, sym, ◌∙◌}
use mathlib.Core.List.{List, ◌++◌}
use native.Mathlib.Nat.{mul-le-mul_right, mod-lt, div-lt_iff_lt-mul, div-add-mod'}
use native.Mathlib.Omega.{arith}
use lib.Arith.{digits_lt}
use lib.ListN.{length, get_or, take, drop, length-append, length-take, length-drop, get_or-append}
use lib.Seq.{get_or-append-add, get_or-drop, get_or-take}
use Rattle.picture.specs.Plane.{Plane, Part, at, rect, crop}

-- P' is what P holds in a part of it
abbrev pub Agree : Plane → Plane → Part → Type 0
Agree P' P part = (x y : ℕ) → x < part.width → y < part.height → P' x y ≡ P (x + part.x) (y + part.y)

-- one sample, by equal places
pub place : (P : Plane) {x x' y y' : ℕ} → x ≡ x' → y ≡ y' → P x y ≡ P x' y'
place P p q = λ i. P (p i) (q i)

pub index : (list : List ℕ) {i j : ℕ} → i ≡ j → get_or list i 0 ≡ get_or list j 0
index list e = ap (λ (k : ℕ). get_or list k 0) e

-- every row of the part lies in the list
abbrev Fits : List ℕ → ℕ → ℕ → ℕ → ℕ → Type 0
Fits list stride start width height = (k : ℕ) → k < height → start + k * stride + width ≤ length list

module _ (list : List ℕ) (stride width : ℕ) where
  row_length : (start : ℕ) → start + width ≤ length list → length (take width (drop start list)) ≡ width
  row_length start h = simp (length-take, length-drop) (omega arith)

  first_fits : (start n : ℕ) → Fits list stride start width (suc n) → start + width ≤ length list
  first_fits start n h = omega (arith, h 0 (omega arith))

  rest_fits : (start n : ℕ) → Fits list stride start width (suc n) → Fits list stride (start + stride) width n
  rest_fits start n h k l = omega (arith, h (suc k) (omega arith))

  rect_length : (start height : ℕ) → Fits list stride start width height
      → length (rect list stride start width height) ≡ width * height
  unfolding rect
  rect_length start zero h = omega arith
  rect_length start (suc n) h =
      length-append (take width (drop start list)) (rect list stride (start + stride) width n)
      ∙ omega (arith, row_length start (first_fits start n h), rect_length (start + stride) n (rest_fits start n h))

  rect_at : (start height : ℕ) → Fits list stride start width height → (x y : ℕ) → x < width → y < height
      → get_or (rect list stride start width height) (y * width + x) 0 ≡ get_or list (start + y * stride + x) 0
  unfolding rect
  rect_at start zero h x y hx hy = omega arith
  rect_at start (suc n) h x zero hx hy =
      let row : List ℕ = take width (drop start list) in
      let rest : List ℕ = rect list stride (start + stride) width n in
      let inside : x < length row = omega (arith, row_length start (first_fits start n h)) in
      index (row ++ rest) (omega arith)
      ∙ get_or-append row rest 0 x inside
      ∙ get_or-take width (drop start list) x 0 hx
      ∙ get_or-drop start list x 0
      ∙ index list (omega arith)
  rect_at start (suc n) h x (suc y) hx hy =
      let row : List ℕ = take width (drop start list) in
      let rest : List ℕ = rect list stride (start + stride) width n in
      index (row ++ rest) (omega (arith, row_length start (first_fits start n h)))
      ∙ get_or-append-add row rest (y * width + x) 0
      ∙ rect_at (start + stride) n (rest_fits start n h) x y hx (omega arith)
      ∙ index list (omega arith)

-- a part lies in W columns and H rows
pub record Inside (part : Part) (W H : ℕ) : Type 0 where
  pub columns : part.width + part.x ≤ W
  pub rows : part.height + part.y ≤ H

-- a part of a list of H rows of W
module _ (list : List ℕ) (W H : ℕ) (part : Part) (long : length list ≡ W * H) (inside : Inside part W H) where
  crop_fits : Fits list W (part.y * W + part.x) part.width part.height
  crop_fits k hk = let row : suc (part.y + k) ≤ H = omega arith in omega (arith, mul-le-mul_right W row)

  pub crop_length : length (crop list W part) ≡ part.width * part.height
  unfolding crop
  crop_length = rect_length list W part.width (part.y * W + part.x) part.height crop_fits

  pub crop_at : Agree (at (crop list W part) part.width) (at list W) part
  unfolding crop at
  crop_at x y hx hy =
      rect_at list W part.width (part.y * W + part.x) part.height crop_fits x y hx hy
      ∙ index list (omega arith)

-- each index of a list of rows is a column of a row
pub record Split (w h k : ℕ) : Type 0 where
  pub column : k % w < w
  pub row : k / w < h
  pub whole : k ≡ k / w * w + k % w

positive : (m n k : ℕ) → k < m * n → 0 < m
positive zero n k h = omega arith
positive (suc m) n k h = omega arith

pub split : (w h k : ℕ) → k < w * h → Split w h k
split w h k hk =
    let wide : 0 < w = positive w h k hk in
    record { column = mod-lt k wide; row = (div-lt_iff_lt-mul wide).1 (omega arith); whole = sym (div-add-mod' k w) }

pub at_split : (list : List ℕ) (w h k : ℕ) → Split w h k → get_or list k 0 ≡ at list w (k % w) (k / w)
unfolding at
at_split list w h k d = index list d.whole

-- and a column of a row is an index
pub within : (W H x y : ℕ) → x < W → y < H → y * W + x < W * H
within W H x y hx hy = omega (arith, digits_lt {q = y} {m = H} {r = x} {c = W} hy hx)
