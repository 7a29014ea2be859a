-- `segment_filter` meets its contract: each test of the gate closes the segment, in the definition's order.
-- Assumes nothing.
use mathlib.Core.Path.{sym, ◌∙◌, ap}
use native.Mathlib.Omega.{arith}
use Rattle.segments.specs.Between.{option_of}
use Rattle.segments.proofs.Gates.{closed_bs, closed_tile, closed_slices, opened, least_some, open_in_range}
use Rattle.segments.proofs.between.segment_filter.Goals as goal
use Rattle.segments.proofs.between.segment_filter.Goals.{
  then-bs-least_bs-via-then-bs-least_bs,
  then-bs-least_bs-via-else-bs-least_bs+then-not-v,
}

pub returns-then-bs-least_bs : goal.returns-then-bs-least_bs
returns-then-bs-least_bs c =
    elim c.then-bs-least_bs.branch [
      | then-bs-least_bs-via-then-bs-least_bs w ↦
          closed_bs c.args.input.now.component _ _ _ (omega (arith, c.least_bs.ensures, w.if-bs-least_bs))
      | then-bs-least_bs-via-else-bs-least_bs+then-not-v w ↦
          closed_tile c.args.input.now.component _ _ _ (omega (arith, c.least_bs.ensures, w.if-bs-least_bs))
          w.if-not-v.true
    ]

pub returns-in_err-s : goal.returns-in_err-s
returns-in_err-s c =
    let k = c.args.input.now.component in
    ap (option_of k.largest) c.from_residual.ensures
    ∙ closed_slices k _ _ _ (omega (arith, c.least_bs.ensures, c.if-bs-least_bs.false)) c.if-not-v.false
    (sym c.slice_gate.ensures ∙ c.in_err-s.was)

pub open_filter-requires : goal.open_filter-requires
open_filter-requires c =
    let gate_open = sym c.slice_gate.ensures ∙ c.in_ok-s.was in
    let segment = open_in_range _ _ _ _ _ gate_open c.requires.segment_in_range in
    record {
      in_range = (
        omega (arith, c.least_bs.ensures, c.if-bs-least_bs.false, least_some c.args.input.now.component),
        segment,
      );
    }

pub returns : goal.returns
returns c =
    c.open_filter.ensures
    ∙ opened c.args.input.now.component _ _ _ (omega (arith, c.least_bs.ensures, c.if-bs-least_bs.false))
    c.if-not-v.false _ (sym c.slice_gate.ensures ∙ c.in_ok-s.was)
