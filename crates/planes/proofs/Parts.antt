-- A part of a list that is lent to a call and comes back: what the callee says of the part, said of the whole; and
-- the same of rows of w samples.
use mathlib.Core.Path.{◌≡◌, sym, ap, ◌∙◌}
use mathlib.Core.List.{List, ◌++◌}
use Prim.Native.Nat.{ℕ, ◌+◌, ◌-◌, ◌*◌, ◌≤◌, ◌<◌}
use native.Mathlib.Nat.{add-mul}
use native.Mathlib.Omega.{arith}
use lib.ListN.{length, get_or, take, drop, length-append, length-take, length-drop, get_or-append}
use lib.Seq.{length-take-le, get_or-take, get_or-drop, get_or-append-add}
use Rattle.planes.specs.Rows.{seen}
use Rattle.picture.proofs.Index.{row_le, within_rows}

-- the k elements of xs from a
abbrev pub part : ℕ → ℕ → List ℕ → List ℕ
part a k xs = take k (drop a xs)

-- xs with ys in their place
abbrev pub back : ℕ → ℕ → List ℕ → List ℕ → List ℕ
back a k xs ys = take a xs ++ (ys ++ drop k (drop a xs))

module _ (a k : ℕ) (xs : List ℕ) (room : a + k ≤ length xs) where
  pub length_part : length (part a k xs) ≡ k
  length_part = simp (length-take, length-drop) (omega arith)

  pub part_at : (j : ℕ) → j < k → get_or (part a k xs) j 0 ≡ get_or xs (a + j) 0
  part_at j h = get_or-take k (drop a xs) j 0 h ∙ get_or-drop a xs j 0

  module _ (ys : List ℕ) (len : length ys ≡ k) where
    pub length_back : length (back a k xs ys) ≡ length xs
    length_back = simp (length-append, length-take, length-drop) (omega arith)

    pub back_before : (i : ℕ) → i < a → get_or (back a k xs ys) i 0 ≡ get_or xs i 0
    back_before i h =
        let l : length (take a xs) ≡ a = length-take-le a xs (omega arith) in
        get_or-append (take a xs) (ys ++ drop k (drop a xs)) 0 i (omega arith) ∙ get_or-take a xs i 0 h

    -- past the first part
    skip : (j : ℕ) → get_or (back a k xs ys) (a + j) 0 ≡ get_or (ys ++ drop k (drop a xs)) j 0
    skip j =
        let l : length (take a xs) ≡ a = length-take-le a xs (omega arith) in
        ap (λ (n : ℕ). get_or (back a k xs ys) (n + j) 0) (sym l)
        ∙ get_or-append-add (take a xs) (ys ++ drop k (drop a xs)) j 0

    pub back_in : (j : ℕ) → j < k → get_or (back a k xs ys) (a + j) 0 ≡ get_or ys j 0
    back_in j h = skip j ∙ get_or-append ys (drop k (drop a xs)) 0 j (omega arith)

    pub back_after : (i : ℕ) → a + k ≤ i → get_or (back a k xs ys) i 0 ≡ get_or xs i 0
    back_after i h =
        let j : ℕ = i - (a + k) in
        let e : i ≡ a + (k + j) = omega arith in
        ap (λ (n : ℕ). get_or (back a k xs ys) n 0) e
        ∙ skip (k + j)
        ∙ ap (λ (n : ℕ). get_or (ys ++ drop k (drop a xs)) (n + j) 0) (sym len)
        ∙ get_or-append-add ys (drop k (drop a xs)) j 0
        ∙ get_or-drop k (drop a xs) j 0
        ∙ get_or-drop a xs (k + j) 0
        ∙ ap (λ (n : ℕ). get_or xs n 0) (sym e)

-- the rows from r to q of those from lo, and xs with ys in their place
abbrev pub rows_of : ℕ → ℕ → ℕ → ℕ → List ℕ → List ℕ
rows_of w lo r q xs = part ((r - lo) * w) ((q - lo) * w - (r - lo) * w) xs

abbrev pub rows_back : ℕ → ℕ → ℕ → ℕ → List ℕ → List ℕ → List ℕ
rows_back w lo r q xs ys = back ((r - lo) * w) ((q - lo) * w - (r - lo) * w) xs ys

-- ---- rows: xs holds the rows from lo, and those from r to q are lent

module _ (w lo r q : ℕ) (lr : lo ≤ r) (rq : r ≤ q) (xs : List ℕ) (room : (q - lo) * w ≤ length xs) where
  -- where they start is before where they end
  pub rows_order : (r - lo) * w ≤ (q - lo) * w
  rows_order = row_le w (omega arith)

  -- a row of the part, in the whole
  split : (y : ℕ) → r ≤ y → (y - lo) * w ≡ (r - lo) * w + (y - r) * w
  split y h =
      let e : y - lo ≡ r - lo + (y - r) = omega arith in
      ap (λ (n : ℕ). n * w) e ∙ add-mul (r - lo) (y - r) w

  pub rows_lent : (x y : ℕ) → x < w → r ≤ y → y < q → seen w r (rows_of w lo r q xs) x y ≡ seen w lo xs x y
  rows_lent x y hx ry yq =
      let h : (r - lo) * w ≤ (q - lo) * w = rows_order in
      let b : (y - lo) * w + x < (q - lo) * w = within_rows w (q - lo) (y - lo) x (omega arith) hx in
      let e : (y - lo) * w ≡ (r - lo) * w + (y - r) * w = split y ry in
      part_at ((r - lo) * w) ((q - lo) * w - (r - lo) * w) xs (omega arith) ((y - r) * w + x) (omega arith)
      ∙ ap (λ (n : ℕ). get_or xs n 0) (omega arith)

  module _ (ys : List ℕ) (kept : length ys ≡ length (rows_of w lo r q xs)) where
    len : length ys ≡ (q - lo) * w - (r - lo) * w
    len =
        let h : (r - lo) * w ≤ (q - lo) * w = rows_order in
        kept ∙ length_part ((r - lo) * w) ((q - lo) * w - (r - lo) * w) xs (omega arith)

    pub rows_in : (x y : ℕ) → x < w → r ≤ y → y < q → seen w lo (rows_back w lo r q xs ys) x y ≡ seen w r ys x y
    rows_in x y hx ry yq =
        let h : (r - lo) * w ≤ (q - lo) * w = rows_order in
        let b : (y - lo) * w + x < (q - lo) * w = within_rows w (q - lo) (y - lo) x (omega arith) hx in
        let e : (y - lo) * w ≡ (r - lo) * w + (y - r) * w = split y ry in
        ap (λ (n : ℕ). get_or (rows_back w lo r q xs ys) n 0) (omega arith)
        ∙ back_in ((r - lo) * w) ((q - lo) * w - (r - lo) * w) xs (omega arith) ys len ((y - r) * w + x) (omega arith)

    pub rows_before : (x y : ℕ) → x < w → lo ≤ y → y < r → seen w lo (rows_back w lo r q xs ys) x y ≡ seen w lo xs x y
    rows_before x y hx ly yr =
        let h : (r - lo) * w ≤ (q - lo) * w = rows_order in
        let b : (y - lo) * w + x < (r - lo) * w = within_rows w (r - lo) (y - lo) x (omega arith) hx in
        back_before ((r - lo) * w) ((q - lo) * w - (r - lo) * w) xs (omega arith) ys len ((y - lo) * w + x) b

    pub rows_after : (x y : ℕ) → q ≤ y → seen w lo (rows_back w lo r q xs ys) x y ≡ seen w lo xs x y
    rows_after x y qy =
        let h : (r - lo) * w ≤ (q - lo) * w = rows_order in
        let b : (q - lo) * w ≤ (y - lo) * w = row_le w (omega arith) in
        back_after ((r - lo) * w) ((q - lo) * w - (r - lo) * w) xs (omega arith) ys len ((y - lo) * w + x)
        (omega arith)
