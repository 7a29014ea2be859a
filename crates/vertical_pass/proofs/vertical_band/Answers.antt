-- `vertical_band` meets its contract. The loop's invariant: the rows before r are done.
-- Assumes nothing.
use Prim.Native.Nat.{◌+◌, ◌-◌, ◌*◌, ◌≤◌}
use mathlib.Core.Path.{◌≡◌}
use native.Mathlib.Omega.{arith}
use lib.ListN.{length}
use Rattle.filter.specs.Kernel.{kernel}
use Rattle.filter.specs.Segment.{vertical}
use Rattle.picture.proofs.Index.{row_le, rows_on}
use Rattle.planes.proofs.Bands.{done_none, done_all, done_more, vertical_local}
use Rattle.strips.specs.Passed.{pass_in}
use Rattle.vertical_pass.proofs.vertical_band.Goals as goal
use Rattle.vertical_pass.proofs.vertical_band.Goals.{In-loop-r}

-- what the products come to in a turn
room : (c : In-loop-r) → let st = c.args in
    let at = c.loop-r in
    let w = st.input.now.frame.columns in
    ((at.r + 4 - st.row0) * w ≡ (at.r - st.row0) * w + 4 * w)
    × ((at.r + 4 - st.row0) * w ≤ length at.s)
room c =
    let st = c.args in
    let at = c.loop-r in
    let w = st.input.now.frame.columns in
    let m : (at.r + 4 - st.row0) * w ≤ (st.row1 - st.row0) * w = row_le w (omega (arith, at.invariant.0)) in
    (rows_on w st.row0 at.r 4 (omega arith), omega arith)

pub loop-r-init : goal.loop-r-init
loop-r-init c =
    (omega arith, done_none _ _ _ (pass_in vertical c.args.input.now) c.args.s.now)

pub slice_bounds-vertical_strip-end : goal.slice_bounds-vertical_strip-end
slice_bounds-vertical_strip-end c =
    omega (arith, (room (goal.at.slice_bounds-vertical_strip-end c).In-loop-r))

pub vertical_strip-requires : goal.vertical_strip-requires
vertical_strip-requires c =
    omega (arith, c.loop-r.invariant.0, (room (goal.at.vertical_strip-requires c).In-loop-r))

pub loop-r-preserved : goal.loop-r-preserved
loop-r-preserved c =
    let at = c.loop-r in
    let strip = c.vertical_strip in (
      omega (arith, at.invariant.0),
      done_more _ _ _ at.r (at.r + 4) (pass_in vertical c.args.input.now)
          (vertical_local kernel _ _ _ _ c.args.input.now.ready.columns4 at.invariant.0 (omega (arith, at.invariant.0))) _
          at.s strip.new.s at.auto.r (omega arith) (omega (arith, at.invariant.0))
          (room (goal.at.loop-r-preserved c).In-loop-r).1
          strip.auto.s
          strip.ensures at.invariant.1,
    )

pub returns : goal.returns
returns c =
    let at = c.loop-r in
    done_all _ _ _ _ (pass_in vertical c.args.input.now) _ at.s c.loop-r-test.false at.invariant.1

-- after the last strip the step would pass the end
pub returns-2 : goal.returns-2
returns-2 c =
    let at = c.loop-r in
    let strip = c.vertical_strip in
    let T = pass_in vertical c.args.input.now in
    let done =
    done_more _ _ _ at.r (at.r + 4) T
    (vertical_local kernel _ _ _ _ c.args.input.now.ready.columns4 at.invariant.0 (omega (arith, at.invariant.0))) _
    at.s strip.new.s at.auto.r (omega arith) (omega (arith, at.invariant.0))
    (room (goal.at.returns-2 c).In-loop-r).1
    strip.auto.s
    strip.ensures at.invariant.1 in
    done_all _ _ _ (at.r + 4) T _ _ (omega arith) done
