-- `horizontal_strip` meets its contract. The loop's invariant: the segments before column x are done.
-- Assumes nothing.
use Prim.Native.Nat.{◌-◌, ◌%◌}
use mathlib.Core.Path.{◌≡◌}
use Rattle.filter.specs.Kernel.{kernel}
use Rattle.filter.specs.Segment.{horizontal}
use Rattle.planes.specs.Rows.{seen}
use Rattle.planes.proofs.Strips.{Segments}
use Rattle.segments.specs.Input.{segment_in}
use Rattle.strips.proofs.horizontal.horizontal_strip.Given as goal

abbrev pub invariant-loop-x : goal.invariant-loop-x
invariant-loop-x l = (l.x % 4 ≡ 0)
    × Segments kernel l.input.frame.columns l.input.frame.rows l.edge (segment_in horizontal l.input)
    (seen l.input.frame.columns (l.edge - 4) l.initial.s) l.x l.s
