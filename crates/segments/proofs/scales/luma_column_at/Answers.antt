-- `luma_column_at` meets its contract: luma is whole, and chroma goes by its format.
-- Assumes nothing.
use Rattle.segments.proofs.Positions.{across_chroma}
use Rattle.segments.proofs.scales.luma_column_at.Goals as goal

pub returns : goal.returns
returns c =
    across_chroma c.args.k _ c.if-k.false c.luma.ensures
