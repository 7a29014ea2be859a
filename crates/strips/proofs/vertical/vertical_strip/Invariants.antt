-- `vertical_strip` meets its contract. The loop's invariant: the edges before column e are done.
-- Assumes nothing.
use Prim.Native.Nat.{◌%◌}
use mathlib.Core.Path.{◌≡◌}
use Rattle.filter.specs.Kernel.{kernel}
use Rattle.filter.specs.Segment.{vertical}
use Rattle.planes.specs.Rows.{seen}
use Rattle.planes.proofs.Strips.{Columns}
use Rattle.segments.specs.Input.{segment_in}
use Rattle.strips.proofs.vertical.vertical_strip.Given as goal

abbrev pub invariant-loop-e : goal.invariant-loop-e
invariant-loop-e l = (l.e % 8 ≡ 0)
    × Columns kernel l.input.frame.columns l.row (segment_in vertical l.input)
    (seen l.input.frame.columns l.row l.initial.s) l.e l.s
