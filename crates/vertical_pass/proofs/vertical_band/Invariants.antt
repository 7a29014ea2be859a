-- `vertical_band` meets its contract. The loop's invariant: the rows before r are done.
-- Assumes nothing.
use Prim.Native.Nat.{◌%◌}
use mathlib.Core.Path.{◌≡◌}
use Rattle.filter.specs.Segment.{vertical}
use Rattle.planes.specs.Rows.{seen}
use Rattle.planes.proofs.Bands.{Done}
use Rattle.strips.specs.Passed.{pass_in}
use Rattle.vertical_pass.proofs.vertical_band.Given as goal

abbrev pub invariant-loop-r : goal.invariant-loop-r
invariant-loop-r l = (l.r % 4 ≡ 0)
    × Done l.input.frame.columns l.row0 l.row1 (pass_in vertical l.input)
    (seen l.input.frame.columns l.row0 l.initial.s) l.r l.s
