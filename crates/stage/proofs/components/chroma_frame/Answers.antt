-- `chroma_frame` meets its contract: its parts are those of the definition.
-- Assumes nothing.
use mathlib.Core.Path.{ap, ◌∙◌}
use Rattle.picture.specs.Scale.{chroma_down, from_luma}
use Rattle.stage.proofs.Steps.{power, frame_made}
use Rattle.stage.proofs.components.chroma_frame.Goals as goal

pub returns : goal.returns
returns c =
    let band =
    c.chroma_rows-2.ensures
    ∙ ap (from_luma (chroma_down c.args.settings.chroma_format)) (power _ c.requires) in
    frame_made c.chroma-columns.ensures c.chroma_rows.ensures c.cell.ensures
    c.row_of_cells.ensures
    band
