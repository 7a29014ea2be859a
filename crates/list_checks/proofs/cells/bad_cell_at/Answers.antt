-- `bad_cell_at` meets its contract: the tests of its fields together.
-- Assumes nothing.
use Rattle.list_checks.proofs.Records.{record_tests}
use Rattle.list_checks.proofs.cells.bad_cell_at.Goals as goal

pub returns : goal.returns
returns c =
    let a = c.args in
    record_tests a.least a.count a.cells.now a.n c.cell_at-cell.result c.cell_at-cell.ensures
    c.bad_qp.ensures c.bad_strength.ensures c.bad_strength-2.ensures c.bad_tail.ensures
