-- `put_rows` meets its contract: each row lies in the list, which stays as long as it was, and the eight rows are the
-- window.
-- Assumes nothing.
use Rattle.window_lines.proofs.Beside.{rows_put}
use Rattle.window_lines.proofs.rows.put_rows.Goals as goal

pub returns : goal.returns
returns c =
    rows_put _ _ c.requires.strides c.args.w c.put_row.ensures c.put_row-2.ensures c.put_row-3.ensures
    c.put_row-4.ensures c.put_row-5.ensures c.put_row-6.ensures c.put_row-7.ensures
    c.put_row-8.ensures
