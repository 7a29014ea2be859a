-- The definitions of this crate over what a pass goes by.
use Rattle.std.specs.Prelude.{ℕ, Bool, List, eqb}
use Rattle.std.proofs.Math.Option.{Option}
use Rattle.filter.specs.Kernel.{Filter}
use Rattle.filter.specs.Segment.{Direction, vertical, horizontal, Position}
use Rattle.picture.specs.Scale.{ctb_of}
use Rattle.picture.specs.Tile.{tile_of}
use Rattle.segments.specs.declared.PassInput.{PassInput}
use Rattle.segments.specs.declared.Sides.{Sides}
use Rattle.segments.specs.Sides.{crossing, sides_at, segment_for}

-- the tile starts that part the sides of an edge: of columns at a vertical edge, of rows at a horizontal one
abbrev pub starts_in : Direction → PassInput → List ℕ
starts_in vertical i = i.columns.now
starts_in horizontal i = i.rows.now

-- whether the tile starts of a direction leave two positions in one tile
abbrev pub one_tile_in : Direction → PassInput → Position → Position → Bool
one_tile_in d i p q =
    eqb (tile_of (starts_in d i) (ctb_of i.frame.log2_ctb (crossing d p)))
    (tile_of (starts_in d i) (ctb_of i.frame.log2_ctb (crossing d q)))

-- the sides of the segment whose Q stands at a position
abbrev pub sides_in : Direction → PassInput → Position → Sides
sides_in d i q = sides_at d i.cells.now (starts_in d i) i.frame.log2_ctb i.frame.cell_columns.0 q

-- how the segment at edge e and first line l is filtered
abbrev pub segment_in : Direction → PassInput → ℕ → ℕ → Option Filter
segment_in d i e l = segment_for d i.component i.frame i.cells.now i.slices.now (starts_in d i) e l
