-- `vertical_strip` meets its contract. The loop's invariant: the edges before column e are done.
-- Assumes nothing.
use Prim.Native.Nat.{◌+◌}
use native.Mathlib.Omega.{arith}
use Rattle.filter.specs.Kernel.{kernel}
use Rattle.planes.proofs.Strips.{columns_none, columns_more, columns_all}
use Rattle.strips.proofs.vertical.vertical_strip.Goals as goal

pub loop-e-init : goal.loop-e-init
loop-e-init c =
    (omega arith, columns_none kernel _ _ _ c.args.s.now)

pub filter_segment-requires-clause-on_edge : goal.filter_segment-requires-clause-on_edge
filter_segment-requires-clause-on_edge c =
    omega (arith, c.loop-e.invariant.0, c.args.input.now.ready.columns4)

pub loop-e-preserved : goal.loop-e-preserved
loop-e-preserved c = (
  omega (arith, c.loop-e.invariant.0),
  columns_more _ _ _ _ _ _ _ _ c.args.input.now.ready.columns4 c.requires.1 c.loop-e.invariant.0 c.loop-e.auto.e
      (omega arith) c.loop-e.invariant.1 c.filter_segment.ensures.filtered,
)

pub returns : goal.returns
returns c =
    columns_all kernel _ _ _ _ _ c.loop-e.s c.loop-e.invariant.0 (omega arith) c.loop-e.invariant.1

-- after the last edge the step would pass the end
pub returns-2 : goal.returns-2
returns-2 c =
    columns_all kernel _ _ _ _ (c.loop-e.e + 8) c.filter_segment.new.s (omega (arith, c.loop-e.invariant.0))
    (omega arith)
    (columns_more _ _ _ _ _ _ _ _ c.args.input.now.ready.columns4 c.requires.1 c.loop-e.invariant.0 c.loop-e.auto.e
    (omega arith) c.loop-e.invariant.1 c.filter_segment.ensures.filtered)
