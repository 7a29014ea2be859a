-- `chroma_size` meets its contract: each side is what its scaling ensures.
-- Assumes nothing.
use Rattle.tile_run.proofs.cut_lists.chroma_size.Goals as goal

pub returns : goal.returns
returns c =
    λ i. record { width = c.chroma.ensures i; height = c.chroma_rows.ensures i }
