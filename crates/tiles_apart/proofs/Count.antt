-- The count of differing samples is zero exactly where no sample differs.
use Prim.Native.Nat.{ℕ, zero, suc, ◌+◌, ◌≤◌, ◌<◌}
use mathlib.Core.Path.{◌≡◌, refl, ap, ◌∙◌}
use mathlib.Core.Bool.{Bool, true, false, cond}
use mathlib.Core.Logic.{⊎_elim}
use native.Mathlib.Omega.{arith}
use borrow.Author.Tests.{eq-eqb, eqb-true}
use lib.Dec.{eqb}
use Rattle.ints.proofs.Laws.{either}
use Rattle.ints.specs.Sum.{sum}
use Rattle.filter.specs.Count.{differ, differing, differences}
use Rattle.picture.specs.Cut.{tile_part, cut}
use Rattle.picture.specs.Picture.{Picture, Planes, plane_of, plane_width}
use Rattle.picture.specs.Plane.{Plane, Part, at}
use Rattle.picture.specs.Scale.{Component, Y, Cb, Cr}
use Rattle.tiles_apart.proofs.Parts.{Agree}

differ_same : (m n : ℕ) → differ m n ≡ 0 → m ≡ n
differ_same m n e = go (eqb m n) refl e
  where
    go : (t : Bool) → eqb m n ≡ t → ◌≡◌ {A = ℕ} (cond t 0 1) 0 → m ≡ n
    go true same e = eqb-true m n same
    go false apart e = absurd (omega arith)

sum_zero : (n : ℕ) (f : ℕ → ℕ) → ((k : ℕ) → k < n → f k ≡ 0) → sum n f ≡ 0
sum_zero zero f h = refl
sum_zero (suc n) f h = omega (arith, sum_zero n f (λ k l. h k (omega arith)), h n (omega arith))

zero_sum : (n : ℕ) (f : ℕ → ℕ) → sum n f ≡ 0 → (k : ℕ) → k < n → f k ≡ 0
zero_sum zero f e k h = absurd (omega arith)
zero_sum (suc n) f e k h = ⊎_elim
    (λ (l : k < n). zero_sum n f (omega arith) k l)
    (λ (l : n ≤ k). let last : k ≡ n = omega arith in ap f last ∙ omega arith)
    (either k n)

module _ (P' P : Plane) (part : Part) where
  agree_zero : Agree P' P part → differing P' P part ≡ 0
  unfolding differing
  agree_zero agree =
      sum_zero part.height _
      (λ y hy. sum_zero part.width _
      (λ x hx. rw (eq-eqb (P' x y) (P (x + part.x) (y + part.y)) (agree x y hx hy))))

  zero_agree : differing P' P part ≡ 0 → Agree P' P part
  unfolding differing
  zero_agree e x y hx hy = differ_same _ _ (zero_sum part.width _ (zero_sum part.height _ e y hy) x hx)

-- the planes `own` of a cut agree with the tile in planes of the picture; and the count for one plane
abbrev pub TileAgrees : Picture → ℕ → ℕ → Planes → Planes → Type 0
TileAgrees p i j own planes =
    (c : Component)
    → Agree (at (plane_of own c) (plane_width (cut p i j) c)) (at (plane_of planes c) (plane_width p c))
    (tile_part p i j c)

abbrev differences_in : Picture → ℕ → ℕ → Planes → Planes → Component → ℕ
differences_in p i j own planes c =
    differing (at (plane_of own c) (plane_width (cut p i j) c)) (at (plane_of planes c) (plane_width p c))
    (tile_part p i j c)

module _ (p : Picture) (i j : ℕ) (own planes : Planes) where
  pub none_differ : TileAgrees p i j own planes → differences p i j own planes ≡ 0
  unfolding differences
  none_differ agree =
      let none : (c : Component) → differences_in p i j own planes c ≡ 0 =
      λ c. agree_zero _ _ _ (agree c) in omega (arith, none Y, none Cb, none Cr)

  pub all_agree : differences p i j own planes ≡ 0 → TileAgrees p i j own planes
  unfolding differences
  all_agree e c = zero_agree _ _ _ (none c)
    where
      none : (c : Component) → differences_in p i j own planes c ≡ 0
      none Y = omega arith
      none Cb = omega arith
      none Cr = omega arith
