-- `horizontal_band` meets its contract. The loop's invariant: the rows before e - 4 are done.
-- Assumes nothing.
use Prim.Native.Nat.{◌+◌, ◌-◌, ◌%◌, ◌≤◌}
use mathlib.Core.Path.{◌≡◌}
use Rattle.filter.specs.Segment.{horizontal}
use Rattle.planes.specs.Rows.{seen}
use Rattle.planes.proofs.Bands.{Done}
use Rattle.strips.specs.Passed.{pass_in}
use Rattle.horizontal_pass.proofs.horizontal_band.Given as goal

abbrev pub invariant-loop-e : goal.invariant-loop-e
invariant-loop-e l = (l.e % 8 ≡ 0) × (8 ≤ l.e) × (l.row0 + 4 ≤ l.e)
    × Done l.input.frame.columns l.row0 l.row1 (pass_in horizontal l.input)
    (seen l.input.frame.columns l.row0 l.initial.s) (l.e - 4) l.s
