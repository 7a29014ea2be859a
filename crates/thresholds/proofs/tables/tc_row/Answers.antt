-- `tc_row` meets its contract: the check finds the row, and no row is above 64.
-- Assumes nothing.
use mathlib.Core.Path.{refl}
use Rattle.thresholds.specs.declared.tables.TheConstants.{TC_ROWS}
use Rattle.thresholds.proofs.Rows.{most}
use Rattle.thresholds.proofs.tables.tc_row.Goals as goal

pub returns-clause-upper_bound : goal.returns-clause-upper_bound
returns-clause-upper_bound c =
    most 64 TC_ROWS refl c.args.q
