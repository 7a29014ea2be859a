-- The two kinds of strips: four rows with their vertical edges, and the eight rows around a horizontal edge.
use Prim.Native.Nat.{ℕ, ◌+◌, ◌-◌, ◌*◌, ◌%◌, ◌≤◌, ◌<◌}
use mathlib.Core.Path.{◌≡◌, refl, sym, ap, ◌∙◌}
use mathlib.Core.List.{List}
use mathlib.Core.Logic.{inl, inr, ⊎_elim}
use mathlib.Core.Option.{Option}
use native.Mathlib.Omega.{arith}
use Rattle.ints.proofs.Laws.{either}
use Rattle.filter.specs.Pass.{edge_of, first_line, pass}
use Rattle.picture.specs.Plane.{Plane, transposed}
use Rattle.planes.specs.Rows.{seen, Rows}
use Rattle.planes.specs.Window.{Strides, Filtered, taken}
use Rattle.picture.proofs.Index.{same_row, same_column}
use Rattle.planes.proofs.Turn.{Upto, turn, pass_off}

-- the samples of the rows from lo to hi
abbrev pub InRows : ℕ → ℕ → ℕ → ℕ → ℕ → Type 0
InRows w lo hi x y = (x < w) × (lo ≤ y) × (y < hi)

-- the same, the row first
abbrev pub turned_in : ℕ → ℕ → ℕ → ℕ → ℕ → Type 0
turned_in w lo hi a b = InRows w lo hi b a

-- each stands by itself
pub one_sample : (w lo hi x y u v : ℕ) → InRows w lo hi x y → InRows w lo hi u v → (y - lo) * w + x ≡ (v - lo) * w + u
    → (x ≡ u) × (y ≡ v)
one_sample w lo hi x y u v d c e =
    let r : y - lo ≡ v - lo = same_row w (y - lo) (v - lo) x u d.0 c.0 e in
    (same_column w (y - lo) (v - lo) x u d.0 c.0 e, omega arith)

-- ---- windows that lie down and windows that stand

pub apart_columns : (w : ℕ) → 8 ≤ w → Strides 1 w
apart_columns w h = record {
  step = omega arith;
  apart = λ k l m n hk hl hm hn e.
      let q : l * w + k ≡ n * w + m = omega arith in
      (same_column w l n k m (omega arith) (omega arith) q, same_row w l n k m (omega arith) (omega arith) q);
}

pub apart_rows : (w : ℕ) → 4 ≤ w → Strides w 1
apart_rows w h = record {
  step = omega arith;
  apart = λ k l m n hk hl hm hn e.
      let q : k * w + l ≡ m * w + n = omega arith in
      (same_row w k m l n (omega arith) (omega arith) q, same_column w k m l n (omega arith) (omega arith) q);
}

-- ---- four rows, from row, edge by edge

-- the edges before e are done
abbrev pub Columns : {A : Type 0} → (A → Plane → Plane) → ℕ → ℕ → (ℕ → ℕ → Option A) → Plane → ℕ → List ℕ → Type 0
Columns filter w row segment P e s =
    Upto (InRows w row (row + 4)) (λ (x y : ℕ). edge_of x) e (pass filter w segment P) P (seen w row s)

pub columns_none : {A : Type 0} (filter : A → Plane → Plane) (w row : ℕ) (segment : ℕ → ℕ → Option A) (s : List ℕ)
    → Columns filter w row segment (seen w row s) 8 s
columns_none filter w row segment s = record {
  done = λ x y d h. sym (pass_off filter w segment (seen w row s) x y (inl (omega arith)));
  left = λ x y d h. refl;
}

module _ {A : Type 0} (filter : A → Plane → Plane) (w row : ℕ) (segment : ℕ → ℕ → Option A) (P : Plane) where
  pub columns_more : (e : ℕ) (s t : List ℕ) → w % 4 ≡ 0 → row % 4 ≡ 0 → e % 8 ≡ 0 → 8 ≤ e → e < w
      → Columns filter w row segment P e s
      → Filtered 4 (taken filter (segment e row)) (e - 4) 1 w s t → Columns filter w row segment P (e + 8) t
  columns_more e s t w4 row4 e8 low high u f =
      turn filter w segment (InRows w row (row + 4)) (λ (x y : ℕ). (y - row) * w + x)
      (λ a b c d p q i. one_sample w row (row + 4) a b c d p q i)
      e row (e - 4) 1 w e8 low high row4
      (λ k l hk hl. omega arith)
      (λ k l hk hl. let r : (row + l - row) * w ≡ l * w = ap (λ (n : ℕ). n * w) (omega arith) in omega arith)
      s t f (λ (x y : ℕ). edge_of x) e (e + 8) P
      (λ x y d h g. (omega arith, omega arith))
      (λ x y d h g. omega arith)
      (omega arith) u

  pub columns_all : (e : ℕ) (s : List ℕ) → e % 8 ≡ 0 → w ≤ e → Columns filter w row segment P e s
      → Rows w row (row + 4) s (pass filter w segment P)
  columns_all e s e8 past u x y hx lo hi =
      ⊎_elim
      (λ h. u.done x y (hx, lo, hi) h)
      (λ h. u.left x y (hx, lo, hi) h ∙ sym (pass_off filter w segment P x y (inr (omega arith))))
      (either (edge_of x) e)

-- ---- the eight rows around a horizontal edge, segment by segment

-- the segments before x are done
abbrev pub Segments : {A : Type 0} → (A → Plane → Plane) → ℕ → ℕ → ℕ → (ℕ → ℕ → Option A) → Plane → ℕ → List ℕ → Type 0
Segments filter w h edge segment P x s =
    Upto (turned_in w (edge - 4) (edge + 4)) (λ (a b : ℕ). first_line b) x (pass filter h segment (transposed P))
    (transposed P) (transposed (seen w (edge - 4) s))

pub segments_none : {A : Type 0} (filter : A → Plane → Plane) (w h edge : ℕ) (segment : ℕ → ℕ → Option A) (s : List ℕ)
    → Segments filter w h edge segment (seen w (edge - 4) s) 0 s
segments_none filter w h edge segment s = record { done = λ a b d g. absurd (omega arith); left = λ a b d g. refl }

module _ {A : Type 0} (filter : A → Plane → Plane) (w h edge : ℕ) (segment : ℕ → ℕ → Option A) (P : Plane) where
  pub segments_more : (x : ℕ) (s t : List ℕ) → w % 4 ≡ 0 → edge % 8 ≡ 0 → 8 ≤ edge → edge < h → x % 4 ≡ 0 → x < w
      → Segments filter w h edge segment P x s
      → Filtered 4 (taken filter (segment edge x)) x w 1 s t → Segments filter w h edge segment P (x + 4) t
  segments_more x s t w4 e8 low high x4 less u f =
      turn filter h segment (turned_in w (edge - 4) (edge + 4)) (λ (a b : ℕ). (a - (edge - 4)) * w + b)
      (λ a b c d p q i. let z = one_sample w (edge - 4) (edge + 4) b a d c p q i in (z.1, z.0))
      edge x x w 1 e8 low high x4
      (λ k l hk hl. omega arith)
      (λ k l hk hl. let r : (edge + k - 4 - (edge - 4)) * w
      ≡ k * w = ap (λ (n : ℕ). n * w) (omega arith) in omega arith)
      s t f (λ (a b : ℕ). first_line b) x (x + 4) (transposed P)
      (λ a b d g i. (omega arith, omega arith))
      (λ a b d g i. omega arith)
      (omega arith) u

  pub segments_all : (x : ℕ) (s : List ℕ) → w ≤ x → Segments filter w h edge segment P x s
      → Rows w (edge - 4) (edge + 4) s (transposed (pass filter h segment (transposed P)))
  segments_all x s past u c r hc lo hi = u.done r c (hc, lo, hi) (omega arith)
