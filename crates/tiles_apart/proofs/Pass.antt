-- One pass is local: where two planes agree on a part and so do their segments, and the segments at the part's
-- borders are closed, the passes agree on the part. For any filter of a window.
use Prim.Native.Nat.{ℕ, ◌+◌, ◌-◌, ◌%◌, ◌≤◌, ◌<◌, min}
use mathlib.Core.Path.{◌≡◌, refl, ap, sym, ◌∙◌, fun_ext}
use mathlib.Core.Bool.{Bool, true, false, cond, ◌&&◌}
use mathlib.Core.Logic.{⊎_elim}
use mathlib.Core.Option.{Option, none}
use native.Mathlib.Omega.{arith}
use borrow.Author.Tests.{lt-ltb, le-ltb}
use Rattle.filter.specs.Pass.{edge_of, first_line, window, applied, pass}
use Rattle.ints.proofs.Laws.{either}
use Rattle.picture.specs.Plane.{Plane}
use Rattle.tiles_apart.proofs.Parts.{Agree, place}

pub and_false : (t : Bool) → (t && false) ≡ false
and_false true = refl
and_false false = refl

cond_same : (t : Bool) (v : ℕ) → cond t v v ≡ v
cond_same true v = refl
cond_same false v = refl

-- the ways through a pass: the position belongs to no edge on the left, to none on the right, to a closed segment, to
-- an edge inside
module _ {A : Type 0} (filter : A → Plane → Plane) (width : ℕ) (segment : ℕ → ℕ → Option A) (P : Plane) (x y : ℕ) where
  pass_first : edge_of x ≡ 0 → pass filter width segment P x y ≡ P x y
  unfolding pass
  pass_first h = rw (le-ltb 0 (edge_of x) (omega arith))

  pass_past : width ≤ edge_of x → pass filter width segment P x y ≡ P x y
  unfolding pass
  pass_past h = simp (le-ltb (edge_of x) width h, and_false)

  pass_closed : segment (edge_of x) (first_line y) ≡ none → pass filter width segment P x y ≡ P x y
  unfolding pass
  pass_closed h = simp (h, cond_same)

  pass_in : 0 < edge_of x → edge_of x < width
      → pass filter width segment P x y
      ≡ applied filter (segment (edge_of x) (first_line y)) (window P (edge_of x) (first_line y)) (x + 4 - edge_of x)
      (y - first_line y) (P x y)
  unfolding pass
  pass_in h k = simp (lt-ltb 0 (edge_of x) h, lt-ltb (edge_of x) width k)

-- P' of w' columns and h rows is the part of P, of w columns, that starts at column a and row b
module _ {A : Type 0} (filter : A → Plane → Plane) (segment' segment : ℕ → ℕ → Option A) (P' P : Plane)
    (w' h w a b : ℕ)
    (a8 : a % 8 ≡ 0) (b4 : b % 4 ≡ 0) (w4 : w' % 4 ≡ 0) (h4 : h % 4 ≡ 0) (fits : w' + a ≤ w)
    (agree : Agree P' P (record { x = a; y = b; width = w'; height = h }))
    (inner : (e l : ℕ) → e % 8 ≡ 0 → l % 4 ≡ 0 → 0 < e → e < w' → l < h → segment' e l ≡ segment (e + a) (l + b))
    (left : (l : ℕ) → 0 < a → segment a (l + b) ≡ none)
    (right : (l : ℕ) → w' + a < w → segment (w' + a) (l + b) ≡ none) where
  module _ (x y : ℕ) (hx : x < w') (hy : y < h) where
    edge_moves : edge_of (x + a) ≡ edge_of x + a
    edge_moves = omega arith

    line_moves : first_line (y + b) ≡ first_line y + b
    line_moves = omega arith

    windows : 0 < edge_of x → edge_of x < w'
        → window P' (edge_of x) (first_line y) ≡ window P (edge_of (x + a)) (first_line (y + b))
    unfolding window
    windows he hw = fun_ext λ i. fun_ext λ j.
        agree (edge_of x + min i 7 - 4) (first_line y + min j 3) (omega arith) (omega arith)
        ∙ place P (omega arith) (omega arith)

    closed : segment (edge_of x + a) (first_line y + b) ≡ none
        → pass filter w segment P (x + a) (y + b) ≡ P (x + a) (y + b)
    closed e = pass_closed filter w segment P (x + a) (y + b) (rw (edge_moves, line_moves) e)

    at_left : edge_of x ≡ 0 → pass filter w segment P (x + a) (y + b) ≡ P (x + a) (y + b)
    at_left e = ⊎_elim
        (λ (k : 0 < a). closed (ap (λ (n : ℕ). segment n (first_line y + b)) (omega arith) ∙ left (first_line y) k))
        (λ (k : a ≤ 0). pass_first filter w segment P (x + a) (y + b) (omega arith))
        (either 0 a)

    at_right : w' ≤ edge_of x → pass filter w segment P (x + a) (y + b) ≡ P (x + a) (y + b)
    at_right e = ⊎_elim
        (λ (k : w' + a < w). closed
        (ap (λ (n : ℕ). segment n (first_line y + b)) (omega arith) ∙ right (first_line y) k))
        (λ (k : w ≤ w' + a). pass_past filter w segment P (x + a) (y + b) (omega arith))
        (either (w' + a) w)

    at_inner : 0 < edge_of x → edge_of x < w' → pass filter w' segment' P' x y ≡ pass filter w segment P (x + a) (y + b)
    at_inner he hw =
        pass_in filter w' segment' P' x y he hw
        ∙ (λ i. applied filter (parameters i) (windows he hw i) (column i) (line i) (agree x y hx hy i))
        ∙ sym (pass_in filter w segment P (x + a) (y + b) (omega arith) (omega arith))
      where
        parameters : segment' (edge_of x) (first_line y) ≡ segment (edge_of (x + a)) (first_line (y + b))
        parameters =
            rw (edge_moves, line_moves)
            (inner (edge_of x) (first_line y) (omega arith) (omega arith) he hw (omega arith))

        column : x + 4 - edge_of x ≡ x + a + 4 - edge_of (x + a)
        column = omega arith

        line : y - first_line y ≡ y + b - first_line (y + b)
        line = omega arith

  pub pass_local : Agree (pass filter w' segment' P') (pass filter w segment P)
      (record { x = a; y = b; width = w'; height = h })
  pass_local x y hx hy = ⊎_elim
      (λ (he : 0 < edge_of x). ⊎_elim
      (λ (hw : edge_of x < w'). at_inner x y hx hy he hw)
      (λ (hw : w' ≤ edge_of x). pass_past filter w' segment' P' x y hw ∙ agree x y hx hy ∙ sym (at_right x y hx hy hw))
      (either (edge_of x) w'))
      (λ (he : edge_of x ≤ 0). pass_first filter w' segment' P' x y (omega arith) ∙ agree x y hx hy
      ∙ sym (at_left x y hx hy (omega arith)))
      (either 0 (edge_of x))
