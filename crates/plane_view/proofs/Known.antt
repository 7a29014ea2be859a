-- That `plane_sample` means what it should: a plane gives its sample at each of its places, and nothing else gives one.
-- And a plane of 3 columns and 2 rows, by computation.
use Prim.Native.Nat.{ℕ, ◌*◌, ◌≤◌, ◌<◌}
use mathlib.Core.Bool.{and-false}
use mathlib.Core.List.{List, [], ◌∷◌}
use mathlib.Core.Path.{◌≡◌, refl}
use borrow.Author.Tests.{lt-ltb, le-ltb, eq-eqb, ne_eqb}
use lib.ListN.{length}
use Rattle.picture.specs.Plane.{at}
use Rattle.plane_view.specs.View.{plane_sample}
use Rattle.std.specs.Prelude.{None, Some}

pub inside : (list : List ℕ) {w h x y : ℕ} → length list ≡ w * h → x < w → y < h
    → plane_sample list w h x y ≡ Some (at list w x y)
inside list {w} {h} {x} {y} plane column row =
    simp (eq-eqb (length list) (w * h) plane, lt-ltb x w column, lt-ltb y h row)

pub refused : (list : List ℕ) (w h x y : ℕ) → (length list ≡ w * h → ⊥) → plane_sample list w h x y ≡ None
refused list w h x y none = simp (ne_eqb (length list) (w * h) none)

pub right_of_it : (list : List ℕ) {w x : ℕ} (h y : ℕ) → w ≤ x → plane_sample list w h x y ≡ None
right_of_it list {w} {x} h y past = simp (le-ltb x w past, and-false)

pub below_it : (list : List ℕ) {h y : ℕ} (w x : ℕ) → h ≤ y → plane_sample list w h x y ≡ None
below_it list {h} {y} w x past = simp (le-ltb y h past, and-false)

abbrev six : List ℕ
six = 10 ∷ 11 ∷ 12 ∷ 20 ∷ 21 ∷ 22 ∷ []

-- row by row: column 2 of row 0, column 0 of row 1
first_row : plane_sample six 3 2 2 0 ≡ Some 12
unfolding at
first_row = refl

second_row : plane_sample six 3 2 0 1 ≡ Some 20
unfolding at
second_row = refl

-- the same list has no column 3, and is no plane of 2 by 2
fourth_column : plane_sample six 3 2 3 0 ≡ None
fourth_column = refl

too_long : plane_sample six 2 2 0 0 ≡ None
too_long = refl
