-- `restore_row` meets its contract: where the mark is set the row is the original one and is stored, else the list is
-- as it was.
-- Assumes nothing.
use Rattle.restore.proofs.CellRows.{row_at, row_stored}
use Rattle.restore.proofs.rows.restore_row.Goals as goal

pub returns-then-suppressed : goal.returns-then-suppressed
returns-then-suppressed c =
    let a = c.args in
    let mark = c.if-suppressed.true in
    let samples =
    row_at a.at a.count a.suppressed a.original.now a.line.now c.cell_row-row.result.now
    c.requires.count_in_bounds.0 c.requires.count_in_bounds.1 c.cell_row-row.ensures mark in
    row_stored a.at c.cell_row-row.result.now a.count a.line.now c.requires.count_in_bounds.1 c.requires.count_bound.0
    c.requires.count_bound.1
    a.suppressed a.original.now mark samples
