-- One pass over the edges of one direction, for any filter of a window. Document 01: "Edges lie at multiples of 8 in
-- each plane's own samples, never at 0. Segments are four samples long. P is left of or above the edge, Q right or
-- below." An edge's segments read and write only the window of 8 by 4 samples around them, and each sample lies in
-- one window, so the pass is defined sample by sample and no order among the segments can show.
use Rattle.std.specs.Prelude.{ℕ, ◌+◌, ◌-◌, ◌*◌, ◌/◌, min, cond, ◌&&◌, ltb}
use Rattle.std.proofs.Math.Option.{Option, none, some}
use Rattle.picture.specs.Plane.{Plane}

-- the edge whose window a position across the edges lies in, and the first line of the segment that a position along
-- them lies in
abbrev pub edge_of : ℕ → ℕ
edge_of x = 8 * ((x + 4) / 8)

abbrev pub first_line : ℕ → ℕ
first_line y = 4 * (y / 4)

-- the window of the segment at edge e whose first line is l: sample i of line j, where 0 to 3 are p3 to p0 and 4 to 7
-- are q0 to q3. Nothing past its 32 samples can be read.
unfoldable pub window : Plane → ℕ → ℕ → Plane
window P e l i j = P (e + min i 7 - 4) (l + min j 3)

-- sample i of line j of a window: the filter's where the segment is open, else `v`
abbrev pub applied : {A : Type 0} → (A → Plane → Plane) → Option A → Plane → ℕ → ℕ → ℕ → ℕ
applied filter none W i j v = v
applied filter (some a) W i j v = filter a W i j

-- one pass over the vertical edges of a plane of `width` columns: `segment e l` says how the segment at edge e and
-- first line l is filtered, or none where it is closed
unfoldable pub pass : {A : Type 0} → (A → Plane → Plane) → ℕ → (ℕ → ℕ → Option A) → Plane → Plane
pass filter width segment P x y =
    cond (ltb 0 (edge_of x) && ltb (edge_of x) width)
    (applied filter (segment (edge_of x) (first_line y)) (window P (edge_of x) (first_line y)) (x + 4 - edge_of x)
    (y - first_line y) (P x y))
    (P x y)
