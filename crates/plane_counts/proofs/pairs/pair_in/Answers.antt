-- `pair_in` meets its contract: each field is what its word ensures.
-- Assumes nothing.
use Rattle.plane_counts.specs.Pairs.{pair_in}
use Rattle.plane_counts.proofs.pairs.pair_in.Goals as goal

pub returns : goal.returns
unfolding pair_in
returns c =
    λ i. record {
      part = record {
        x = c.word.ensures i;
        y = c.word-2.ensures i;
        width = c.word-3.ensures i;
        height = c.word-4.ensures i;
      };
      stride = c.word-5.ensures i;
      rows = c.word-6.ensures i;
    }
