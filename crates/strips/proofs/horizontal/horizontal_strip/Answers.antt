-- `horizontal_strip` meets its contract. The loop's invariant: the segments before column x are done.
-- Assumes nothing.
use Prim.Native.Nat.{◌+◌}
use native.Mathlib.Omega.{arith}
use Rattle.filter.specs.Kernel.{kernel}
use Rattle.planes.proofs.Strips.{segments_none, segments_more, segments_all}
use Rattle.strips.proofs.horizontal.horizontal_strip.Goals as goal

pub loop-x-init : goal.loop-x-init
loop-x-init c =
    (omega arith, segments_none kernel _ _ _ _ c.args.s.now)

pub filter_segment-requires-clause-on_edge : goal.filter_segment-requires-clause-on_edge
filter_segment-requires-clause-on_edge c =
    omega (
      arith,
      c.requires,
      c.loop-x.invariant.0,
      c.args.input.now.ready.columns4,
      c.args.input.now.ready.rows4,
    )

pub loop-x-preserved : goal.loop-x-preserved
loop-x-preserved c = (
  omega (arith, c.loop-x.invariant.0),
  segments_more _ _ _ _ _ _ _ _ _ c.args.input.now.ready.columns4 c.requires.1 c.requires.2 c.requires.3
      c.loop-x.invariant.0 (omega arith) c.loop-x.invariant.1 c.filter_segment.ensures.filtered,
)

pub returns : goal.returns
returns c =
    segments_all kernel _ _ _ _ _ _ c.loop-x.s (omega arith) c.loop-x.invariant.1

-- after the last segment the step would pass the end
pub returns-2 : goal.returns-2
returns-2 c =
    segments_all kernel _ _ _ _ _ (c.loop-x.x + 4) c.filter_segment.new.s (omega arith)
    (segments_more _ _ _ _ _ _ _ _ _ c.args.input.now.ready.columns4 c.requires.1 c.requires.2 c.requires.3
    c.loop-x.invariant.0 (omega arith) c.loop-x.invariant.1 c.filter_segment.ensures.filtered)
