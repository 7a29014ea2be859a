-- `open_filter` meets its contract: the filter is the component's, and tc 0 gives none.
-- Assumes nothing.
use mathlib.Core.Path.{◌∙◌, ap}
use Rattle.segments.specs.Between.{option_of, positive}
use Rattle.segments.proofs.Gates.{
  luma_positive,
  chroma_positive,
  luma_for,
  chroma_for,
  luma_at_largest,
  chroma_at_largest,
}
use Rattle.segments.proofs.between.open_filter.Goals as goal

pub returns-then-k : goal.returns-then-k
returns-then-k c =
    let k = c.args.input.now.component in
    ap (option_of k.largest) c.then_some.ensures
    ∙ luma_positive k.largest _ _
    ∙ ap positive
    (luma_at_largest k _ _ _ _ c.args.input.now.ready.sound _ c.luma_filter-f.ensures
    ∙ luma_for k _ _ _ _ c.if-k.true)

pub returns-else-k : goal.returns-else-k
returns-else-k c =
    let k = c.args.input.now.component in
    ap (option_of k.largest) c.then_some-else-k.ensures
    ∙ chroma_positive k.largest _
    ∙ ap positive
    (chroma_at_largest k _ _ _ c.args.bs c.args.input.now.ready.sound _ c.chroma_filter-f.ensures
    ∙ chroma_for k _ _ _ _ c.if-k.false)
