-- `horizontal_pass` meets its contract. The loop's invariant: the rows before r are done, and r is where a band ends.
-- Assumes nothing.
use Prim.Native.Nat.{◌-◌, ◌≤◌}
use Rattle.filter.specs.Bands.{horizontal_bands, horizontal_band_end, Seam}
use Rattle.filter.specs.Segment.{horizontal}
use Rattle.filter.proofs.AllBands.{Through}
use Rattle.picture.specs.Plane.{at}
use Rattle.planes.proofs.Bands.{DoneTo}
use Rattle.strips.specs.Passed.{pass_in}
use Rattle.horizontal_pass.proofs.horizontal_pass.Given as goal

abbrev pub invariant-loop-r : goal.invariant-loop-r
invariant-loop-r l =
    let f = l.input.frame in
    Seam f.rows l.r × (l.r ≤ f.rows)
    × DoneTo f.columns f.rows (pass_in horizontal l.input) (at l.initial.s f.columns) l.r l.s
    × Through (horizontal_bands f.rows f.band) (horizontal_band_end f.rows f.band) f.rows l.r

abbrev pub decreases-loop-r : goal.decreases-loop-r
decreases-loop-r l = l.input.frame.rows - l.r
