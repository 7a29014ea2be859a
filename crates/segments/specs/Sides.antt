-- The cells on the two sides of a segment, by the luma position of Q, and the segment of a component at an edge and a
-- first line, in either direction.
use Rattle.std.specs.Prelude.{ℕ, ◌+◌, cond, List, eqb}
use Rattle.std.proofs.Math.Option.{Option, none}
use Rattle.filter.specs.declared.Component.{Component}
use Rattle.filter.specs.Kernel.{Filter}
use Rattle.filter.specs.Segment.{Direction, vertical, horizontal, edge_flag, bs_of, Position, position_p}
use Rattle.picture.specs.declared.Cell.{Cell}
use Rattle.picture.specs.Cell.{cell_at, cell_number}
use Rattle.picture.specs.Scale.{Sampling, whole, chroma_across, chroma_down, to_luma, cell_of, ctb_of}
use Rattle.picture.specs.Tile.{tile_of}
use Rattle.segments.specs.declared.Frame.{Frame}
use Rattle.segments.specs.declared.LumaPosition.{LumaPosition}
use Rattle.segments.specs.declared.Sides.{Sides}
use Rattle.segments.specs.Between.{between_for}

-- the cell at a luma position, of `width` cells to a row
abbrev pub cell_in : List ℕ → ℕ → Position → Cell
cell_in cells width a = cell_at cells (cell_number width (cell_of a.x) (cell_of a.y))

-- the coordinate of a position that lies across the edges of a direction
abbrev pub crossing : Direction → Position → ℕ
crossing vertical a = a.x
crossing horizontal a = a.y

abbrev pub position_of : ℕ → ℕ → Position
position_of x y = record { x = x; y = y }

-- the code's struct as a position
abbrev pub place_of : LumaPosition → Position
place_of a = position_of a.x.0 a.y

-- how far a plane reaches across the edges of a direction, and along them
abbrev pub breadth : Direction → Frame → ℕ
breadth vertical f = f.columns
breadth horizontal f = f.rows

abbrev pub length_of : Direction → Frame → ℕ
length_of vertical f = f.rows
length_of horizontal f = f.columns

-- `starts` are the tile starts of the direction: columns for vertical edges, rows for horizontal ones
unfoldable pub sides_at : Direction → List ℕ → List ℕ → ℕ → ℕ → Position → Sides
sides_at d cells starts log2 width q = record {
  p = cell_in cells width (position_p d q);
  q = cell_in cells width q;
  same = eqb (tile_of starts (ctb_of log2 (crossing d (position_p d q)))) (tile_of starts (ctb_of log2 (crossing d q)));
}

abbrev pub across_for : Component → Sampling
across_for k = cond k.luma whole (chroma_across k.format)

abbrev pub down_for : Component → Sampling
down_for k = cond k.luma whole (chroma_down k.format)

-- the luma position of Q of the segment at edge e and first line l
abbrev pub position_for : Component → Direction → ℕ → ℕ → Position
position_for k vertical e l = position_of (to_luma (across_for k) e) (to_luma (down_for k) (l + 1))
position_for k horizontal e l = position_of (to_luma (across_for k) (l + 1)) (to_luma (down_for k) e)

-- the Q cell of that segment
abbrev pub cell_for : Direction → Component → Frame → List ℕ → ℕ → ℕ → Cell
cell_for d k f cells e l = cell_in cells f.cell_columns.0 (position_for k d e l)

-- how the segment between two sides is filtered
abbrev pub flagged : Direction → Component → List ℕ → Sides → Option Filter
flagged d k slices s = cond (edge_flag d s.q) (between_for k slices s (bs_of d s.q)) none

-- how the segment at edge e and first line l is filtered
unfoldable pub segment_for : Direction → Component → Frame → List ℕ → List ℕ → List ℕ → ℕ → ℕ → Option Filter
segment_for d k f cells slices starts e l =
    flagged d k slices (sides_at d cells starts f.log2_ctb f.cell_columns.0 (position_for k d e l))
