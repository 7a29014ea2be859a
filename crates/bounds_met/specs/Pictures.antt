-- The bounds of document 02's C-23 on a picture are met, for each component and at each depth: no smaller numbers would
-- do.
use Rattle.std.specs.Prelude.{ℕ, ◌+◌, ◌≤◌, ◌≡◌}
use Rattle.bounded_moves.specs.Pictures.{output, bound, AcceptedSample}
use Rattle.picture.specs.Picture.{Picture, Planes, depth_of, original}
use Rattle.picture.specs.Scale.{Component}

-- an accepted picture with two samples of the component side by side, each of which ends exactly as far from its
-- original as the bound allows; and though twice the bound is between them, they end as one
pub record Reached (c : Component) (depth : ℕ) : Type 0 where
  pub picture : Picture
  pub lent : Planes
  pub depth_is : depth_of picture.settings c ≡ depth
  pub x : ℕ
  pub y : ℕ
  pub sample : AcceptedSample picture lent c x y
  pub beside : AcceptedSample picture lent c (x + 1) y
  pub up : output picture lent c x y ≡ original picture c x y + bound picture.settings c
  pub down : original picture c (x + 1) y ≡ output picture lent c (x + 1) y + bound picture.settings c
  pub met : output picture lent c x y ≡ output picture lent c (x + 1) y

abbrev pub AllReached : Type 0
AllReached = (c : Component) (depth : ℕ) → 8 ≤ depth → depth ≤ 16 → Reached c depth
