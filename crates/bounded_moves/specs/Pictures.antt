-- Document 02, C-23, of a whole picture: "no luma sample ends more than 96·2^(depth − 8) from its original, no chroma
-- sample more than 48·2^(depth − 8), and none leaves its range." `verdict` and `outputs` are the answer and the planes
-- that the stage's contract names: what is said of them here is said of the stage.
use Rattle.std.specs.Prelude.{ℕ, ◌+◌, ◌*◌, ◌-◌, ◌^◌, ◌≤◌, ◌<◌, ◌≡◌}
use Rattle.filter.specs.Finished.{outputs}
use Rattle.ints.specs.Sample.{distance}
use Rattle.picture.specs.Causes.{verdict}
use Rattle.picture.specs.Ledger.{acceptance}
use Rattle.picture.specs.Picture.{Picture, Planes, Settings, plane_of, plane_width, plane_height, original}
use Rattle.picture.specs.Picture.{depth_of, largest}
use Rattle.picture.specs.Plane.{Plane, at}
use Rattle.picture.specs.Scale.{Component, Y, Cb, Cr}

-- a component's samples as the stage leaves them; `lent` are the output planes, holding anything
abbrev pub output : Picture → Planes → Component → Plane
output p lent c = at (plane_of (outputs p lent) c) (plane_width p c)

-- "96·2^(depth − 8)" in luma, "48·2^(depth − 8)" in chroma, by the component's own depth
abbrev pub bound_at8 : Component → ℕ
bound_at8 Y = 96
bound_at8 Cb = 48
bound_at8 Cr = 48

abbrev pub bound : Settings → Component → ℕ
bound t c = bound_at8 c * 2 ^ (depth_of t c - 8)

-- a sample of an accepted picture: its component, column and row
pub record AcceptedSample (p : Picture) (lent : Planes) (c : Component) (x y : ℕ) : Type 0 where
  pub accepted : verdict p lent ≡ acceptance
  pub column : x < plane_width p c
  pub row : y < plane_height p c

pub record HowFar : Type 0 where
  -- "no luma sample ends more than .. from its original, no chroma sample more than .."
  pub within_bound : (p : Picture) (lent : Planes) (c : Component) (x y : ℕ) → AcceptedSample p lent c x y
      → distance (original p c x y) (output p lent c x y) ≤ bound p.settings c
  -- "none leaves its range"
  pub in_range : (p : Picture) (lent : Planes) (c : Component) (x y : ℕ) → AcceptedSample p lent c x y
      → output p lent c x y ≤ largest p.settings c

-- "whether smoothing could close a thin digit stroke", which is what was asked: of two samples of a plane, one that is
-- less than the other by more than twice the bound (192 in luma at depth 8) is the lesser one in the end, too
abbrev pub StrokeStays : Type 0
StrokeStays = (p : Picture) (lent : Planes) (c : Component) (x y x' y' : ℕ)
    → AcceptedSample p lent c x y → AcceptedSample p lent c x' y'
    → original p c x y + 2 * bound p.settings c < original p c x' y'
    → output p lent c x y < output p lent c x' y'
