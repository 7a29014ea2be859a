-- `filter_segment` meets its contract: the window lies in the strip, and a closed segment changes nothing.
-- Assumes nothing.
use mathlib.Core.Path.{sym, ap, ◌∙◌}
use native.Mathlib.Omega.{arith}
use Rattle.segments.specs.Between.{option_of}
use Rattle.segments.proofs.Looks.{segment_none}
use Rattle.segments.proofs.Positions.{segment_listed}
use Rattle.strips.proofs.Windows.{strides_in, untouched}
use Rattle.strips.proofs.segment.filter_segment.Goals as goal

pub edge_at-requires-clause-listed : goal.edge_at-requires-clause-listed
edge_at-requires-clause-listed g c =
    let i = c.args.input.now in
    segment_listed g.D.EdgeDirection.direction i.component i.frame i.ready c.args.e c.args.l
    (omega (arith, c.requires.on_edge)) (omega (arith, c.requires.on_edge))

pub returns-then-not-edge_at-clause-filtered : goal.returns-then-not-edge_at-clause-filtered
returns-then-not-edge_at-clause-filtered g c =
    (untouched _ _ _
    (segment_none g.D.EdgeDirection.direction _ _ _ _ _ c.args.e c.args.l (sym c.if-not-edge_at.ensures))).0

pub returns-then-not-edge_at-clause-value : goal.returns-then-not-edge_at-clause-value
returns-then-not-edge_at-clause-value g c =
    (untouched _ _ _
    (segment_none g.D.EdgeDirection.direction _ _ _ _ _ c.args.e c.args.l (sym c.if-not-edge_at.ensures))).1

pub returns-in_err-filter-clause-filtered : goal.returns-in_err-filter-clause-filtered
returns-in_err-filter-clause-filtered g c =
    (untouched _ _ _
    (sym (ap (option_of c.args.input.now.component.largest) c.in_err-filter.was) ∙ c.filter_at.ensures)).0

pub luma-requires-clause-strides : goal.luma-requires-clause-strides
luma-requires-clause-strides g c =
    strides_in g.D.EdgeDirection.direction c.args.input.now.frame c.args.e c.args.l c.requires.on_edge.0
    c.requires.on_edge.1 c.requires.on_edge.2

pub chroma-requires-clause-strides : goal.chroma-requires-clause-strides
chroma-requires-clause-strides g c =
    strides_in g.D.EdgeDirection.direction c.args.input.now.frame c.args.e c.args.l c.requires.on_edge.0
    c.requires.on_edge.1 c.requires.on_edge.2
