-- `filter_turned` meets its contract: what is filtered in the turned window is the window filtered.
-- Assumes nothing.
use Rattle.luma_windows.proofs.Turn.{turned_decided}
use Rattle.luma_windows.proofs.turned.filter_turned.Goals as goal

pub returns : goal.returns
returns c =
    turned_decided _ c.args.f c.args.base c.args.along c.args.s.now c.turn.ensures
    c.filter_rows.ensures c.turn_back.ensures
