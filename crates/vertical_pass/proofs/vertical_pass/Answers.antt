-- `vertical_pass` meets its contract. The loop's invariant: the rows before r are done, and r is where a band ends.
-- Assumes nothing.
use Prim.Native.Nat.{◌+◌, ◌-◌, ◌*◌, ◌%◌, ◌≤◌, ◌<◌}
use mathlib.Core.Path.{◌≡◌, refl}
use native.Mathlib.Omega.{arith}
use lib.ListN.{length}
use Rattle.filter.specs.Bands.{ctb_band_end}
use Rattle.filter.specs.Kernel.{kernel}
use Rattle.filter.specs.Segment.{vertical}
use Rattle.filter.proofs.AllBands.{ctb_start, ctb_next}
use Rattle.picture.proofs.Index.{row_le, rows_between}
use Rattle.planes.proofs.Bands.{plane_none, plane_more, vertical_local}
use Rattle.strips.specs.Passed.{pass_in}
use Rattle.vertical_pass.proofs.vertical_pass.Goals as goal
use Rattle.vertical_pass.proofs.vertical_pass.Goals.{After-ctb_band_end-end}

-- the band, and what the products come to
room : (c : After-ctb_band_end-end) → let f = c.args.input.now.frame in
    let at = c.loop-r in
    let end = c.ctb_band_end-end.result in
    (at.r < end) × (end ≤ f.rows) × (end % 4 ≡ 0)
    × (end * f.columns ≡ at.r * f.columns + (end - at.r) * f.columns)
    × (end * f.columns ≤ length at.s)
unfolding ctb_band_end
room c =
    let ready = c.args.input.now.ready in
    let f = c.args.input.now.frame in
    let end = c.ctb_band_end-end.result in
    let rises : c.loop-r.r < end = omega (arith, ready.band_some) in
    let within : end ≤ f.rows = omega arith in
    let m : end * f.columns ≤ f.rows * f.columns = row_le f.columns within in (
      rises,
      within,
      omega (arith, ready.rows4, ready.band4),
      rows_between f.columns (omega arith),
      omega arith,
    )

pub loop-r-init : goal.loop-r-init
loop-r-init c =
    (refl, omega arith, plane_none _ _ (pass_in vertical c.args.input.now) c.args.s.now, ctb_start _ _)

pub overflow_mul-b : goal.overflow_mul-b
overflow_mul-b c =
    omega (arith, (room (goal.at.overflow_mul-b c).After-ctb_band_end-end))

pub slice_bounds-vertical_band-count : goal.slice_bounds-vertical_band-count
slice_bounds-vertical_band-count c =
    omega (arith, (room (goal.at.slice_bounds-vertical_band-count c).After-ctb_band_end-end))

pub slice_bounds-vertical_band-start : goal.slice_bounds-vertical_band-start
slice_bounds-vertical_band-start c =
    omega (arith, (room (goal.at.slice_bounds-vertical_band-start c).After-ctb_band_end-end))

pub slice_bounds-vertical_band-end : goal.slice_bounds-vertical_band-end
slice_bounds-vertical_band-end c =
    omega (arith, (room (goal.at.slice_bounds-vertical_band-end c).After-ctb_band_end-end))

pub vertical_band-requires : goal.vertical_band-requires
vertical_band-requires c =
    omega (arith, c.loop-r.invariant.0, (room (goal.at.vertical_band-requires c).After-ctb_band_end-end))

pub loop-r-smaller : goal.loop-r-smaller
loop-r-smaller c =
    omega (arith, (room (goal.at.loop-r-smaller c).After-ctb_band_end-end))

pub loop-r-preserved : goal.loop-r-preserved
loop-r-preserved c =
    let ready = c.args.input.now.ready in
    let at = c.loop-r in
    let band = c.vertical_band in
    let r = room (goal.at.loop-r-preserved c).After-ctb_band_end-end in (
      r.2,
      r.1,
      plane_more _ _ at.r c.ctb_band_end-end.result (pass_in vertical c.args.input.now)
          (vertical_local kernel _ _ _ _ ready.columns4 at.invariant.0 r.2) _
          at.s band.new.s (omega arith) r.1 r.4 band.auto.s band.ensures at.invariant.2,
      ctb_next c.ctb_band_end-end.ensures ready.band_some (omega arith) at.invariant.3,
    )
