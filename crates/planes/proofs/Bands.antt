-- A pass over rows, part by part: each part is lent, and its rows come back with the pass.
use Prim.Native.Nat.{ℕ, ◌+◌, ◌-◌, ◌*◌, ◌/◌, ◌%◌, ◌≤◌, ◌<◌}
use mathlib.Core.Path.{◌≡◌, refl, sym, ◌∙◌, subst}
use mathlib.Core.List.{List}
use mathlib.Core.Logic.{◌⊎◌, inl, inr, ⊎_elim}
use mathlib.Core.Option.{Option}
use native.Mathlib.Nat.{sub-zero}
use native.Mathlib.Omega.{arith}
use lib.ListN.{length}
use Rattle.ints.proofs.Laws.{either}
use Rattle.filter.specs.Bands.{Seam}
use Rattle.filter.specs.Pass.{edge_of, first_line, pass}
use Rattle.picture.specs.Plane.{Plane, at, transposed}
use Rattle.planes.specs.Rows.{seen, Rows, Holds, crosswise}
use Rattle.planes.proofs.Parts.{part, back, rows_of, rows_back, rows_lent, rows_in, rows_before, rows_after}
use Rattle.planes.proofs.Strips.{InRows}
use Rattle.planes.proofs.Turn.{Upto, pass_off, pass_same}

-- what T makes of the rows from r to q goes by those rows alone
abbrev pub Local : ℕ → ℕ → ℕ → (Plane → Plane) → Type 0
Local w r q T =
    (P Q : Plane) → ((x y : ℕ) → InRows w r q x y → P x y ≡ Q x y) → (x y : ℕ) → InRows w r q x y → T P x y ≡ T Q x y

pub vertical_local : {A : Type 0} (filter : A → Plane → Plane) (w r q : ℕ) (segment : ℕ → ℕ → Option A)
    → w % 4 ≡ 0 → r % 4 ≡ 0 → q % 4 ≡ 0 → Local w r q (pass filter w segment)
vertical_local filter w r q segment w4 r4 q4 P Q same x y d =
    pass_same filter w segment P Q x y (same x y d)
    (λ p h k l hk hl. same (edge_of x + k - 4) (first_line y + l) (omega arith))

pub horizontal_local : {A : Type 0} (filter : A → Plane → Plane) (w h r q : ℕ) (segment : ℕ → ℕ → Option A)
    → w % 4 ≡ 0 → h % 4 ≡ 0 → Seam h r → Seam h q → Local w r q (crosswise filter h segment)
horizontal_local filter w h r q segment w4 h4 cr cq P Q same x y d =
    pass_same filter h segment (transposed P) (transposed Q) y x (same x y d)
    (λ p g k l hk hl.
    let lo : r ≤ edge_of y + k - 4 =
    ⊎_elim (λ z. omega (arith, z)) (λ o. ⊎_elim (λ z. omega (arith, z)) (λ z. omega (arith, z)) o) cr in
    let hi : edge_of y + k - 4 < q =
    ⊎_elim (λ z. omega (arith, z)) (λ o. ⊎_elim (λ z. omega (arith, z)) (λ z. omega (arith, z)) o) cq in
    same (first_line x + l) (edge_of y + k - 4) (omega arith))

-- the rows before t are done
abbrev pub Done : ℕ → ℕ → ℕ → (Plane → Plane) → Plane → ℕ → List ℕ → Type 0
Done w lo hi T P t s = Upto (InRows w lo hi) (λ (x y : ℕ). y) t (T P) P (seen w lo s)

pub done_none : (w lo hi : ℕ) (T : Plane → Plane) (s : List ℕ) → Done w lo hi T (seen w lo s) lo s
done_none w lo hi T s = record { done = λ x y d h. absurd (omega arith); left = λ x y d h. refl }

pub done_all : (w lo hi t : ℕ) (T : Plane → Plane) (P : Plane) (s : List ℕ) → hi ≤ t → Done w lo hi T P t s
    → Rows w lo hi s (T P)
done_all w lo hi t T P s past u x y hx ly yh = u.done x y (hx, ly, yh) (omega arith)

pub done_at : (w lo hi : ℕ) (T : Plane → Plane) (P : Plane) (s : List ℕ) {t t' : ℕ} → t ≡ t' → Done w lo hi T P t s
    → Done w lo hi T P t' s
done_at w lo hi T P s e u = subst (λ (n : ℕ). Done w lo hi T P n s) e u

-- the rows from r to q are lent, and come back with T of them
module _ (w lo hi r q : ℕ) (T : Plane → Plane) (loc : Local w r q T) (P : Plane) where
  pub done_more : (xs ys : List ℕ) → lo ≤ r → r ≤ q → q ≤ hi
      → (q - lo) * w ≤ length xs → length ys ≡ length (rows_of w lo r q xs)
      → Rows w r q ys (T (seen w r (rows_of w lo r q xs)))
      → Done w lo hi T P r xs
      → Done w lo hi T P q (rows_back w lo r q xs ys)
  done_more xs ys lr rq qh room kept new u = record {
    done = λ x y d h.
        ⊎_elim
        (λ before. rows_before w lo r q lr rq xs room ys kept x y d.0 d.1 before ∙ u.done x y d before)
        (λ now.
        rows_in w lo r q lr rq xs room ys kept x y d.0 now h
        ∙ new x y d.0 now h
        ∙ loc (seen w r (rows_of w lo r q xs)) P
        (λ c v g. rows_lent w lo r q lr rq xs room c v g.0 g.1 g.2
        ∙ u.left c v (g.0, omega arith, omega arith) g.1)
        x y (d.0, now, h))
        (either y r);
    left = λ x y d h. rows_after w lo r q lr rq xs room ys kept x y h ∙ u.left x y d (omega arith);
  }

-- ---- the first and the last rows of a band of horizontal edges, which belong to no edge

pub horizontal_none : {A : Type 0} (filter : A → Plane → Plane) (w h lo hi e : ℕ) (segment : ℕ → ℕ → Option A)
    (s : List ℕ)
    → e ≡ (lo / 8 + 1) * 8 → Seam h lo → hi ≤ h → Done w lo hi (crosswise filter h segment) (seen w lo s) (e - 4) s
horizontal_none filter w h lo hi e segment s es cut le = record {
  done = λ x y d g.
      let low : edge_of y ≡ 0 =
      ⊎_elim (λ z. omega (arith, z)) (λ o. ⊎_elim (λ z. omega (arith, z)) (λ z. omega (arith, z)) o) cut in
      sym (pass_off filter h segment (transposed (seen w lo s)) y x (inl low));
  left = λ x y d g. refl;
}

pub horizontal_all : {A : Type 0} (filter : A → Plane → Plane) (w h lo hi e : ℕ) (segment : ℕ → ℕ → Option A)
    (P : Plane) (s : List ℕ)
    → e % 8 ≡ 0 → hi ≤ e → Seam h hi → h % 4 ≡ 0
    → Done w lo hi (crosswise filter h segment) P (e - 4) s → Rows w lo hi s (crosswise filter h segment P)
horizontal_all filter w h lo hi e segment P s e8 past cut h4 u x y hx ly yh =
    ⊎_elim
    (λ before. u.done x y (hx, ly, yh) before)
    (λ rest.
    let off : h ≤ edge_of y =
    ⊎_elim (λ z. omega (arith, z)) (λ o. ⊎_elim (λ z. omega (arith, z)) (λ z. omega (arith, z)) o) cut in
    u.left x y (hx, ly, yh) rest ∙ sym (pass_off filter h segment (transposed P) y x (inr off)))
    (either y (e - 4))

-- an edge of the band has its eight rows there
pub edge_room : (h row1 e : ℕ) → Seam h row1 → h % 4 ≡ 0 → e % 8 ≡ 0 → e < row1 → row1 ≤ h → e + 4 ≤ row1
edge_room h row1 e cut h4 e8 less le =
    ⊎_elim (λ z. omega (arith, z)) (λ o. ⊎_elim (λ z. omega (arith, z)) (λ z. omega (arith, z)) o) cut

-- and so has the first
pub first_edge : (h row0 : ℕ) → Seam h row0 → h % 4 ≡ 0 → row0 + 4 ≤ (row0 / 8 + 1) * 8
first_edge h row0 cut h4 =
    ⊎_elim (λ z. omega (arith, z)) (λ o. ⊎_elim (λ z. omega (arith, z)) (λ z. omega (arith, z)) o) cut

-- ---- a whole plane: its first row is row 0

abbrev pub DoneTo : ℕ → ℕ → (Plane → Plane) → Plane → ℕ → List ℕ → Type 0
DoneTo w h T P t s = Upto (InRows w 0 h) (λ (x y : ℕ). y) t (T P) P (at s w)

pub plane_none : (w h : ℕ) (T : Plane → Plane) (s : List ℕ) → DoneTo w h T (at s w) 0 s
plane_none w h T s = record { done = λ x y d g. absurd (omega arith); left = λ x y d g. refl }

pub plane_all : (w h t : ℕ) (T : Plane → Plane) (P : Plane) (s : List ℕ) → h ≤ t → DoneTo w h T P t s
    → Holds w h s (T P)
plane_all w h t T P s past u x y hx yh = u.done x y (hx, omega arith, yh) (omega arith)

module _ (w h r q : ℕ) (T : Plane → Plane) (loc : Local w r q T) (P : Plane) where
  pub plane_more : (xs ys : List ℕ) → r ≤ q → q ≤ h → q * w ≤ length xs
      → length ys ≡ length (part (r * w) (q * w - r * w) xs)
      → Rows w r q ys (T (seen w r (part (r * w) (q * w - r * w) xs)))
      → DoneTo w h T P r xs
      → DoneTo w h T P q (back (r * w) (q * w - r * w) xs ys)
  unfolding at
  plane_more xs ys rq qh room kept new u =
      let v : Done w 0 h T P r xs =
      record {
        done = λ x y d g. simp sub-zero (u.done x y d g);
        left = λ x y d g. simp sub-zero
            (u.left x y d g);
      } in
      let z : Done w 0 h T P q (rows_back w 0 r q xs ys) =
      done_more w 0 h r q T loc P xs ys (omega arith) rq qh (simp sub-zero room) (simp sub-zero kept)
      (simp sub-zero new) v in
      record {
        done = λ x y d g. simp sub-zero at (z.done x y d g);
        left = λ x y d g. simp sub-zero at
            (z.left x y d g);
      }
