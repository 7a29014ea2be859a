-- `chroma_filter` meets its contract: `chroma_made` puts the average and tc together.
-- Assumes nothing.
use Rattle.filter.proofs.Leaves.{chroma_made}
use Rattle.filter.proofs.parameters.chroma_filter.Goals as goal

pub returns : goal.returns
returns c =
    chroma_made _ _ _ _ _ c.average_qp-average.ensures c.requires.largest_is _ _
    c.chroma_tc.ensures
