-- `horizontal_chroma` meets its contract: `chroma_put` puts the four lines and the two rows together.
-- Assumes nothing.
use Rattle.chroma_windows.proofs.PairRows.{chroma_put}
use Rattle.chroma_windows.proofs.chroma.horizontal_chroma.Goals as goal

pub returns : goal.returns
returns c =
    chroma_put c.args.t _ _ c.requires.strides c.args.s.now _ _ _ _ _ _
    c.filtered_chroma-a.ensures c.filtered_chroma-b.ensures
    c.filtered_chroma-c.ensures c.filtered_chroma-d.ensures c.put_row.ensures c.put_row-2.ensures
