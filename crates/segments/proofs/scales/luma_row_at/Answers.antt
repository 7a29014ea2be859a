-- `luma_row_at` meets its contract: luma is whole, and chroma goes by its format.
-- Assumes nothing.
use Rattle.segments.proofs.Positions.{down_chroma}
use Rattle.segments.proofs.scales.luma_row_at.Goals as goal

pub returns : goal.returns
returns c =
    down_chroma c.args.k _ c.if-k.false c.luma_row.ensures
