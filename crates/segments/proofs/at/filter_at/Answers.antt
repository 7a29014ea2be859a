-- `filter_at` meets its contract: the cells are listed, and the segment, whose flag is set, goes by the sides that were
-- looked up.
-- Assumes nothing.
use mathlib.Core.Path.{sym, ap, ◌∙◌, subst}
use Rattle.filter.specs.Segment.{Position}
use Rattle.segments.specs.Input.{sides_in}
use Rattle.segments.specs.Listed.{Listed}
use Rattle.segments.proofs.Looks.{segment_made}
use Rattle.segments.proofs.Positions.{segment_listed, sides_listed, sides_in_range}
use Rattle.segments.proofs.at.filter_at.Goals as goal
use Rattle.segments.proofs.at.filter_at.Goals.{After-strength}

pub sides_of-v-requires-clause-listed : goal.sides_of-v-requires-clause-listed
sides_of-v-requires-clause-listed g c =
    let i = c.args.input.now in
    subst (λ (a : Position). Listed i.cells.now i.frame.cell_columns.0 a.x a.y) (sym c.position_q.ensures)
    (segment_listed g.D.EdgeDirection.direction i.component i.frame i.ready c.args.e c.args.l c.requires.on_edge.1
    c.requires.on_edge.2)

pub segment_filter-requires-clause-slice_bound : goal.segment_filter-requires-clause-slice_bound
segment_filter-requires-clause-slice_bound g c =
    let i = c.args.input.now in
    let d = g.D.EdgeDirection.direction in
    sides_listed d i.component i.frame i.ready c.args.e c.args.l c.requires.on_edge.1 c.requires.on_edge.2 _ _
    (c.sides_of-v.ensures ∙ ap (sides_in d i) c.position_q.ensures)

pub segment_filter-requires-clause-segment_in_range : goal.segment_filter-requires-clause-segment_in_range
segment_filter-requires-clause-segment_in_range g c =
    let i = c.args.input.now in
    let d = g.D.EdgeDirection.direction in
    sides_in_range d i.component i.frame i.ready c.args.e c.args.l c.requires.on_edge.1 c.requires.on_edge.2 _ _
    (c.sides_of-v.ensures ∙ ap (sides_in d i) c.position_q.ensures) _ c.strength.ensures

pub returns : goal.returns
returns g c =
    let i = c.args.input.now in
    let d = g.D.EdgeDirection.direction in
    segment_made d i.component i.frame _ _ _ c.args.e c.args.l _ _ c.requires.flagged
    (c.sides_of-v.ensures ∙ ap (sides_in d i) c.position_q.ensures) c.strength.ensures c.segment_filter.ensures
