-- `thresholds_of` meets its contract: `thresholds_made` puts the depth, the average QP and the offsets together, and
-- the record is in range of the table.
-- Assumes nothing.
use native.Mathlib.Omega.{arith}
use Rattle.thresholds.proofs.LumaTable.{average_listed}
use Rattle.bench.proofs.Facts.{thresholds_made}
use Rattle.bench.proofs.segment.thresholds_of.Goals as goal

-- the offset by both bounds, so that the other offset in its place would be refused for its value alone
pub tc_of-requires : goal.tc_of-requires
tc_of-requires c =
    let r = c.requires in
    let listed = average_listed _ _ _ c.average_qp-average.ensures r.qpp_most r.qpq_most in
    record {
      tc_table = c.luma_tc_table-tcs.ensures;
      depth_bound = (r.depth_least, r.depth_most);
      average_bound = (listed, r.bs_most, omega (arith, r.beta_most, r.tc_most));
    }

pub returns : goal.returns
returns c =
    let average = c.average_qp-average.ensures in
    thresholds_made _ _ average c.luma_beta.ensures c.tc_of.ensures c.largest_at.ensures
