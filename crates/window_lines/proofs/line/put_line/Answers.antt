-- `put_line` meets its contract: `put_eight` puts the eight stores together.
-- Assumes nothing.
use native.Mathlib.Omega.{arith}
use Rattle.window_lines.proofs.InList.{put_eight}
use Rattle.window_lines.proofs.line.put_line.Goals as goal

pub returns : goal.returns
returns c =
    put_eight _ _ _ c.args.s.now (omega arith) (omega arith)
