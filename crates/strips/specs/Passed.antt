-- A pass over a component's plane by what the code is given, and what a segment of it answers.
use Rattle.std.specs.Prelude as Code
use Rattle.std.specs.Prelude.{ℕ, ◌-◌, List, Some, None}
use Rattle.std.proofs.Math.Option.{Option, none, some}
use Rattle.filter.specs.declared.Component.{Component}
use Rattle.filter.specs.Kernel.{Filter, luma, chroma, line_of, kernel}
use Rattle.filter.specs.Pass.{pass}
use Rattle.filter.specs.Segment.{Direction, vertical, horizontal}
use Rattle.lines.specs.Answer.{answer_of}
use Rattle.lines.specs.Decision.{decision}
use Rattle.strips.specs.declared.Treatment.{Treatment}
use Rattle.strips.specs.declared.Treatment.TheVariants.{Luma, Chroma}
use Rattle.picture.specs.Plane.{Plane}
use Rattle.planes.specs.Rows.{crosswise}
use Rattle.segments.specs.declared.Frame.{Frame}
use Rattle.segments.specs.declared.PassInput.{PassInput}
use Rattle.segments.specs.Input.{starts_in}
use Rattle.segments.specs.Sides.{segment_for}

-- one pass, with the tile starts of its direction
abbrev pub pass_for : Direction → Component → Frame → List ℕ → List ℕ → List ℕ → Plane → Plane
pass_for vertical k f cells slices starts = pass kernel f.columns (segment_for vertical k f cells slices starts)
pass_for horizontal k f cells slices starts = crosswise kernel f.rows (segment_for horizontal k f cells slices starts)

-- the same of what a pass goes by
abbrev pub pass_in : Direction → PassInput → Plane → Plane
pass_in d i = pass_for d i.component i.frame i.cells.now i.slices.now (starts_in d i)

-- what is done at a segment, by its filter and the window that it finds: the decision is that of the window's lines 0
-- and 3, and its counts come with it
abbrev pub treatment : Option Filter → Plane → Code.Option Treatment
treatment none W = None
treatment (some (luma β tc largest)) W = Some (Luma (answer_of (decision β tc (line_of W 0) (line_of W 3))))
treatment (some (chroma tc largest)) W = Some Chroma

-- a strip, of w samples to a row: its rows, the strides of a window in it across the edge and along it, and where the
-- window of the segment at edge e and first line l begins
abbrev pub rows_in : Direction → ℕ
rows_in vertical = 4
rows_in horizontal = 8

abbrev pub across_in : Direction → ℕ → ℕ
across_in vertical w = 1
across_in horizontal w = w

abbrev pub along_in : Direction → ℕ → ℕ
along_in vertical w = w
along_in horizontal w = 1

abbrev pub base_in : Direction → ℕ → ℕ → ℕ
base_in vertical e l = e - 4
base_in horizontal e l = l
