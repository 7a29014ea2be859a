-- `horizontal_band` meets its contract. The loop's invariant: the rows before e - 4 are done.
-- Assumes nothing.
use Prim.Native.Nat.{ℕ, ◌+◌, ◌-◌, ◌*◌, ◌/◌, ◌≤◌}
use mathlib.Core.Logic.{inr}
use mathlib.Core.Path.{◌≡◌, refl, ap, ◌∙◌}
use native.Mathlib.Omega.{arith}
use lib.ListN.{length}
use Rattle.filter.specs.Kernel.{kernel}
use Rattle.filter.specs.Segment.{horizontal}
use Rattle.picture.proofs.Index.{row_le, rows_on}
use Rattle.planes.specs.Rows.{seen}
use Rattle.planes.proofs.Bands.{Done, done_at, done_more, horizontal_local, horizontal_none, horizontal_all, edge_room, first_edge}
use Rattle.planes.proofs.Parts.{rows_back}
use Rattle.strips.specs.Passed.{pass_in}
use Rattle.horizontal_pass.proofs.horizontal_band.Goals as goal
use Rattle.horizontal_pass.proofs.horizontal_band.Goals.{In-loop-e}

-- what the products come to in a turn
room : (c : In-loop-e) → let st = c.args in
    let at = c.loop-e in
    let w = st.input.now.frame.columns in
    (at.e + 4 ≤ st.row1)
    × ((at.e + 4 - st.row0) * w ≡ (at.e - 4 - st.row0) * w + 8 * w)
    × ((at.e + 4 - st.row0) * w ≤ length at.s)
room c =
    let st = c.args in
    let at = c.loop-e in
    let w = st.input.now.frame.columns in
    let f : at.e + 4 ≤ st.row1 =
    edge_room _ _ _ c.requires.seam.1 st.input.now.ready.rows4 (omega arith) (omega arith) (omega arith) in
    let m : (at.e + 4 - st.row0) * w ≤ (st.row1 - st.row0) * w = row_le w (omega arith) in
    let q : at.e + 4 ≡ at.e - 4 + 8 = omega arith in
    (f, ap (λ (n : ℕ). (n - st.row0) * w) q ∙ rows_on w st.row0 (at.e - 4) 8 (omega arith), omega arith)

pub loop-e-init : goal.loop-e-init
loop-e-init c =
    let f : c.args.row0 + 4 ≤ (c.args.row0 / 8 + 1) * 8 =
    first_edge _ _ c.requires.seam.0 c.args.input.now.ready.rows4 in (
      omega arith,
      omega arith,
      f,
      horizontal_none kernel _ _ _ _ _ _ c.args.s.now refl c.requires.seam.0 (omega arith),
    )

pub horizontal_strip-requires : goal.horizontal_strip-requires
horizontal_strip-requires c =
    omega (arith, (room (goal.at.horizontal_strip-requires c).In-loop-e))

pub loop-e-preserved : goal.loop-e-preserved
loop-e-preserved c =
    let ready = c.args.input.now.ready in
    let T = pass_in horizontal c.args.input.now in
    let at = c.loop-e in
    let strip = c.horizontal_strip in
    let r = room (goal.at.loop-e-preserved c).In-loop-e in (
      omega arith,
      omega arith,
      omega arith,
      done_at _ _ _ T _ (rows_back _ c.args.row0 (at.e - 4) (at.e + 4) at.s strip.new.s)
          (omega arith)
          (done_more _ _ _ (at.e - 4) (at.e + 4) T
          (horizontal_local kernel _ _ _ _ _ ready.columns4 ready.rows4 (inr (inr (omega arith)))
          (inr (inr (omega arith)))) _
          at.s strip.new.s (omega arith) (omega arith) r.0 r.2
          strip.auto.s
          strip.ensures at.invariant.3),
    )

pub returns : goal.returns
returns c =
    let at = c.loop-e in
    horizontal_all kernel _ _ _ _ _ _ _ at.s at.invariant.0 c.loop-e-test.false c.requires.seam.1
    c.args.input.now.ready.rows4
    at.invariant.3

-- after the last strip the step would pass the end
pub returns-2 : goal.returns-2
returns-2 c =
    let ready = c.args.input.now.ready in
    let w = c.args.input.now.frame.columns in
    let T = pass_in horizontal c.args.input.now in
    let P = seen w c.args.row0 c.args.s.now in
    let at = c.loop-e in
    let strip = c.horizontal_strip in
    let r = room (goal.at.returns-2 c).In-loop-e in
    let ys = rows_back w c.args.row0 (at.e - 4) (at.e + 4) at.s strip.new.s in
    let done : Done w c.args.row0 c.args.row1 T P (at.e + 8 - 4) ys =
    done_at _ _ _ T _ ys
    (omega arith)
    (done_more _ _ _ (at.e - 4) (at.e + 4) T
    (horizontal_local kernel _ _ _ _ _ ready.columns4 ready.rows4 (inr (inr (omega arith)))
    (inr (inr (omega arith)))) P
    at.s strip.new.s (omega arith) (omega arith) r.0 r.2
    strip.auto.s
    strip.ensures at.invariant.3) in
    horizontal_all kernel _ _ _ _ (at.e + 8) _ P ys (omega arith) (omega arith) c.requires.seam.1 ready.rows4 done
