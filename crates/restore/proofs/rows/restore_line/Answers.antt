-- `restore_line` meets its contract. The loop's invariant: the cells before column gx are done.
-- Assumes nothing.
use Rattle.restore.proofs.CellRows.{line_more}
use Rattle.restore.proofs.rows.restore_line.Goals as goal

pub loop-gx-preserved : goal.loop-gx-preserved
loop-gx-preserved c =
    line_more _ _ _ _ _ _ _ _ _ _ _ _ c.cell_number-n.ensures c.sample_suppressed-suppressed.ensures
    c.loop-gx.invariant c.restore_row.ensures
