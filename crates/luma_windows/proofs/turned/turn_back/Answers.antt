-- `turn_back` meets its contract. The loop's invariant: the first j lines are written, and the others are as they
-- were.
-- Assumes nothing.
use native.Mathlib.Omega.{arith}
use Rattle.planes.proofs.Windows.{filtered_more}
use Rattle.luma_windows.specs.Decided.{shown}
use Rattle.luma_windows.proofs.Turn.{shown_line}
use Rattle.luma_windows.proofs.turned.turn_back.Goals as goal

pub loop-j-preserved : goal.loop-j-preserved
loop-j-preserved c =
    filtered_more (shown c.args.t.now) c.args.base 1 c.args.along c.requires.strides c.args.s.now
    c.loop-j.j _ c.loop-j.s _ (omega arith) c.loop-j.invariant c.put_line.ensures
    (shown_line c.args.t.now c.loop-j.j (omega arith) c.take_line.ensures)
