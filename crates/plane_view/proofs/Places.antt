-- Where a place of a plane stands in the list of its rows, and what a view of a plane gives.
use Prim.Native.Nat.{ℕ, ◌+◌, ◌*◌, ◌≤◌, ◌<◌}
use mathlib.Core.Bool.{Bool, true, false, cond, ◌&&◌}
use mathlib.Core.List.{List}
use mathlib.Core.Path.{◌≡◌, refl, ap, subst⁻¹}
use native.Mathlib.Nat.{mul_comm, mul-le-mul_right, add-mul}
use native.Mathlib.Omega.{arith}
use borrow.Author.Tests.{ltb-true, eqb-true, lt-ltb, le-ltb}
use lib.Dec.{ltb}
use lib.ListN.{length}
use Rattle.picture.specs.Plane.{at}
use Rattle.plane_view.specs.View.{Size, is_plane, view_size, sample_in, plane_sample}
use Rattle.std.specs.Prelude.{None, Some}

-- every column of every row of a plane has its place in the list
pub place_of : {w h x y : ℕ} → x < w → y < h → y * w + x < w * h
place_of {w} {h} {x} {y} column row =
    let m : (y + 1) * w ≤ h * w = mul-le-mul_right w (omega arith) in
    let d : (y + 1) * w ≡ y * w + 1 * w = add-mul y 1 w in
    omega (arith, mul_comm w h)

-- a third test that the first two imply adds nothing
third : (a b c : Bool) → (a ≡ true → b ≡ true → c ≡ true) → a && (b && c) ≡ a && b
third false b c h = refl
third true false c h = refl
third true true c h = h refl refl

-- a view's size, at the two answers of `is_plane`
abbrev pub size_at : Bool → ℕ → ℕ → Size
size_at b w h = cond b (record { width = w; height = h }) (record { width = 0; height = 0 })

-- the sample that a view gives, at the two answers of `is_plane`
seen_at : (list : List ℕ) (w h x y : ℕ) (b : Bool) → is_plane list w h ≡ b
    → sample_in list (size_at b w h).width (size_at b w h).height x y
    ≡ cond (b && (ltb x w && ltb y h)) (Some (at list w x y)) None
seen_at list w h x y true e =
    let in_list : x < w → y < h → y * w + x < length list =
    λ column row. subst⁻¹ (λ (n : ℕ). y * w + x < n) (eqb-true _ _ e) (place_of column row)
    in
    ap (λ (t : Bool). cond t (Some (at list w x y)) None)
    (third (ltb x w) (ltb y h) (ltb (y * w + x) (length list))
    (λ column row. lt-ltb (y * w + x) (length list) (in_list (ltb-true x w column) (ltb-true y h row))))
seen_at list w h x y false e = simp (le-ltb x 0 (omega arith))

-- a view of the size that was passed gives the samples of the plane, and the refused view none
pub seen : (list : List ℕ) (w h x y : ℕ)
    → sample_in list (view_size list w h).width (view_size list w h).height x y ≡ plane_sample list w h x y
seen list w h x y = seen_at list w h x y (is_plane list w h) refl
