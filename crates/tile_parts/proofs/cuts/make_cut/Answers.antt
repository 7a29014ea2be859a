-- `make_cut` meets its contract: four parts.
-- Assumes nothing.
use mathlib.Core.Path.{refl, ◌∙◌}
use Rattle.tile_parts.proofs.Same.{crop_as, planes_as}
use Rattle.tile_parts.proofs.cuts.make_cut.Goals as goal

pub returns-clause-planes : goal.returns-clause-planes
returns-clause-planes c =
    let from = c.args.picture.now.planes in
    let is = c.chroma_part-chroma.ensures in
    let wide = c.chroma-stride.ensures in
    planes_as (c.crop.ensures ∙ crop_as refl from.y.now refl) (c.crop-2.ensures ∙ crop_as is from.cb.now wide)
    (c.crop-3.ensures ∙ crop_as is from.cr.now wide)

pub returns-clause-cells : goal.returns-clause-cells
returns-clause-cells c =
    c.crop-4.ensures ∙ crop_as c.cell_part.ensures c.args.picture.now.cells.now c.row_bytes.ensures
