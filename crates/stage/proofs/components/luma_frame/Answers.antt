-- `luma_frame` meets its contract: its parts are those of the definition.
-- Assumes nothing.
use Rattle.stage.proofs.Steps.{power, frame_made}
use mathlib.Core.Path.{refl}
use Rattle.stage.proofs.components.luma_frame.Goals as goal

pub returns : goal.returns
returns c =
    frame_made refl refl c.cell.ensures c.row_of_cells.ensures (power _ c.requires)
