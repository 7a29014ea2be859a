-- `horizontal_pass` meets its contract. The loop's invariant: the rows before r are done, and r is where a band ends.
-- Assumes nothing.
use Prim.Native.Nat.{◌+◌, ◌-◌, ◌*◌, ◌≤◌, ◌<◌}
use mathlib.Core.Logic.{inl}
use mathlib.Core.Path.{◌≡◌, refl}
use native.Mathlib.Omega.{arith}
use lib.ListN.{length}
use Rattle.filter.specs.Bands.{Seam}
use Rattle.filter.specs.Kernel.{kernel}
use Rattle.filter.specs.Segment.{horizontal}
use Rattle.filter.proofs.AllBands.{horizontal_start, horizontal_next, horizontal_end}
use Rattle.picture.proofs.Index.{row_le, rows_between}
use Rattle.planes.proofs.Bands.{plane_none, plane_more, horizontal_local}
use Rattle.strips.specs.Passed.{pass_in}
use Rattle.horizontal_pass.proofs.horizontal_pass.Goals as goal
use Rattle.horizontal_pass.proofs.horizontal_pass.Goals.{After-horiz_band_end-end}

-- the band, and what the products come to
room : (c : After-horiz_band_end-end) → let f = c.args.input.now.frame in
    let at = c.loop-r in
    let end = c.horiz_band_end-end.result in
    (at.r < end) × (end ≤ f.rows) × (Seam f.rows end)
    × (end * f.columns ≡ at.r * f.columns + (end - at.r) * f.columns)
    × (end * f.columns ≤ length at.s)
room c =
    let f = c.args.input.now.frame in
    let at = c.loop-r in
    let end = c.horiz_band_end-end.result in
    let z : (at.r < end) × (end ≤ f.rows) × Seam f.rows end =
    rw c.horiz_band_end-end.ensures (horizontal_end f.rows f.band at.r c.args.input.now.ready.band_some (omega arith)) in
    let m : end * f.columns ≤ f.rows * f.columns = row_le f.columns z.1 in
    (z.0, z.1, z.2, rows_between f.columns (omega arith), omega arith)

pub loop-r-init : goal.loop-r-init
loop-r-init c =
    (inl refl, omega arith, plane_none _ _ (pass_in horizontal c.args.input.now) c.args.s.now, horizontal_start _ _)

pub overflow_mul-b : goal.overflow_mul-b
overflow_mul-b c =
    omega (arith, (room (goal.at.overflow_mul-b c).After-horiz_band_end-end))

pub slice_bounds-horizontal_band-count : goal.slice_bounds-horizontal_band-count
slice_bounds-horizontal_band-count c =
    omega (arith, (room (goal.at.slice_bounds-horizontal_band-count c).After-horiz_band_end-end))

pub slice_bounds-horizontal_band-start : goal.slice_bounds-horizontal_band-start
slice_bounds-horizontal_band-start c =
    omega (arith, (room (goal.at.slice_bounds-horizontal_band-start c).After-horiz_band_end-end))

pub slice_bounds-horizontal_band-end : goal.slice_bounds-horizontal_band-end
slice_bounds-horizontal_band-end c =
    omega (arith, (room (goal.at.slice_bounds-horizontal_band-end c).After-horiz_band_end-end))

pub horizontal_band-requires : goal.horizontal_band-requires
horizontal_band-requires c =
    let r = room (goal.at.horizontal_band-requires c).After-horiz_band_end-end in
    record { s_len = omega (arith, r); seam = (c.loop-r.invariant.0, r.2) }

pub loop-r-smaller : goal.loop-r-smaller
loop-r-smaller c =
    omega (arith, (room (goal.at.loop-r-smaller c).After-horiz_band_end-end))

pub loop-r-preserved : goal.loop-r-preserved
loop-r-preserved c =
    let ready = c.args.input.now.ready in
    let at = c.loop-r in
    let band = c.horizontal_band in
    let r = room (goal.at.loop-r-preserved c).After-horiz_band_end-end in (
      r.2,
      r.1,
      plane_more _ _ at.r c.horiz_band_end-end.result (pass_in horizontal c.args.input.now)
          (horizontal_local kernel _ _ _ _ _ ready.columns4 ready.rows4 at.invariant.0 r.2) _
          at.s band.new.s (omega arith) r.1 r.4 band.auto.s band.ensures at.invariant.2,
      horizontal_next c.horiz_band_end-end.ensures ready.band_some (omega arith) at.invariant.3,
    )
