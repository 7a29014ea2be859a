-- `luma_filter` meets its contract: `luma_made` puts the average, beta and tc together.
-- Assumes nothing.
use Rattle.thresholds.proofs.LumaTable.{average_listed}
use Rattle.filter.proofs.Leaves.{luma_made}
use Rattle.filter.proofs.parameters.luma_filter.Goals as goal

-- the average is listed in the table, as both QPs are
pub luma_tc-requires : goal.luma_tc-requires
luma_tc-requires c =
    let listed = average_listed _ _ _ c.average_qp-average.ensures c.requires.in_range.1.qp_p
    c.requires.in_range.1.qp_q in record {
      tc_table = c.requires.tc_table;
      depth_bound =
          (c.requires.sound.depth_low, c.requires.sound.depth_high);
      average_bound = (
        listed,
        c.requires.in_range.0,
        c.requires.in_range.1.bs_most,
        c.requires.in_range.1.tc_most,
      );
    }

pub returns : goal.returns
returns c =
    luma_made _ _ _ _ _ c.average_qp-average.ensures c.requires.sound.largest_is _
    c.luma_beta.ensures
    c.luma_tc.ensures
