-- `luma_tc_table` meets its contract: each of the array's 1,352 entries passes the test, by computation.
-- Assumes nothing.
use mathlib.Core.Path.{refl}
use Rattle.thresholds.specs.Tables.{TC}
use Rattle.thresholds.proofs.LumaTable.{table_made}
use Rattle.thresholds.proofs.luma_table.luma_tc_table.Goals as goal

pub returns : goal.returns
unfolding TC
returns c =
    table_made _ refl refl
