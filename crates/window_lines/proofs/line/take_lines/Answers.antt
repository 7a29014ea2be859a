-- `take_lines` meets its contract: each line is the window's.
-- Assumes nothing.
use Rattle.window_lines.proofs.InList.{lines_read}
use Rattle.window_lines.proofs.line.take_lines.Goals as goal

pub returns : goal.returns
returns c =
    lines_read _ _ _ _ c.take_line.ensures c.take_line-2.ensures c.take_line-3.ensures
    c.take_line-4.ensures
