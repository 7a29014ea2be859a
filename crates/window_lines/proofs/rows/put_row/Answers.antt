-- `put_row` meets its contract: `put_four` puts the four stores together.
-- Assumes nothing.
use native.Mathlib.Omega.{arith}
use lib.ListN.{length-set}
use Rattle.window_lines.proofs.Beside.{put_four}
use Rattle.window_lines.proofs.rows.put_row.Goals as goal

pub returns : goal.returns
returns c =
    put_four _ _ _ _ _ c.args.s.now (omega arith)
