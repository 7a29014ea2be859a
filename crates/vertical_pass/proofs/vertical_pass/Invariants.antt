-- `vertical_pass` meets its contract. The loop's invariant: the rows before r are done, and r is where a band ends.
-- Assumes nothing.
use Prim.Native.Nat.{◌-◌, ◌%◌, ◌≤◌}
use mathlib.Core.Path.{◌≡◌}
use Rattle.filter.specs.Bands.{ctb_bands, ctb_band_end}
use Rattle.filter.specs.Segment.{vertical}
use Rattle.filter.proofs.AllBands.{Through}
use Rattle.picture.specs.Plane.{at}
use Rattle.planes.proofs.Bands.{DoneTo}
use Rattle.strips.specs.Passed.{pass_in}
use Rattle.vertical_pass.proofs.vertical_pass.Given as goal

abbrev pub invariant-loop-r : goal.invariant-loop-r
invariant-loop-r l =
    let f = l.input.frame in
    (l.r % 4 ≡ 0) × (l.r ≤ f.rows)
    × DoneTo f.columns f.rows (pass_in vertical l.input) (at l.initial.s f.columns) l.r l.s
    × Through (ctb_bands f.rows f.band) (ctb_band_end f.rows f.band) f.rows l.r

abbrev pub decreases-loop-r : goal.decreases-loop-r
decreases-loop-r l = l.input.frame.rows - l.r
