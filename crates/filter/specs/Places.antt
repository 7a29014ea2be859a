-- The places of all segments of a picture, in the order of document 02, C-24: "luma vertical edges left to right,
-- each from its top, then luma horizontal ones top to bottom, each from its left, then chroma so, Cb and Cr
-- together".
use Rattle.std.specs.Prelude.{ℕ, zero, suc, ◌+◌, ◌-◌, ◌*◌, ◌/◌, ◌%◌, ◌<◌, ◌≡◌, List, [], ◌∷◌, ◌++◌, ◌⊎◌}
use Rattle.filter.specs.Segment.{Direction, vertical, horizontal}
use Rattle.picture.specs.Picture.{Picture, plane_width, plane_height}
use Rattle.picture.specs.Scale.{Component, Y, Cb}

-- a segment: the edge and the first line, "both as sample positions in that plane". Chroma's component is Cb, whose
-- segments lie where Cr's lie.
pub record Place : Type 0 where
  pub component : Component
  pub direction : Direction
  pub edge : ℕ
  pub line : ℕ

-- f 0 and after it f 1, and so on to f (n - 1)
abbrev pub in_turn : {A : Type 0} → ℕ → (ℕ → List A) → List A
in_turn zero f = []
in_turn (suc n) f = f 0 ++ in_turn n (λ k. f (suc k))

-- "Edges lie at multiples of 8 in each plane's own samples, never at 0. Segments are four samples long.": so many
-- edges lie across n samples, and so many segments along n samples
abbrev pub edges_in : ℕ → ℕ
edges_in n = (n - 1) / 8

abbrev pub segments_along : ℕ → ℕ
segments_along n = (n + 3) / 4

-- an edge and a first line where a segment lies, of a plane of `across` samples across the edges and `along` samples
-- along them
pub record OnGrid (across along edge line : ℕ) : Type 0 where
  pub eights : edge % 8 ≡ 0
  pub some : 0 < edge
  pub edge_within : edge < across
  pub fours : line % 4 ≡ 0
  pub line_within : line < along

-- a segment that stands before another in the list: at a lesser edge, or at its edge with a lesser first line
abbrev pub Earlier : ℕ → ℕ → ℕ → ℕ → Type 0
Earlier e l e' l' = (e < e') ⊎ ((e ≡ e') × (l < l'))

-- edge by edge, each from its first segment on, of a plane of `across` samples across the edges and `along` samples
-- along them
unfoldable pub places_across : Component → Direction → ℕ → ℕ → List Place
places_across c d across along =
    in_turn (edges_in across)
    (λ e.
    in_turn (segments_along along)
    (λ l. record { component = c; direction = d; edge = 8 * (e + 1); line = 4 * l } ∷ []))

-- the places of one component and direction
unfoldable pub places_of : Picture → Component → Direction → List Place
places_of p c vertical = places_across c vertical (plane_width p c) (plane_height p c)
places_of p c horizontal = places_across c horizontal (plane_height p c) (plane_width p c)

unfoldable pub places : Picture → List Place
places p =
    places_of p Y vertical
    ++ (places_of p Y horizontal ++ (places_of p Cb vertical ++ places_of p Cb horizontal))
