-- `turn_back` meets its contract. The loop's invariant: the first j lines are written, and the others are as they
-- were.
-- Assumes nothing.
use Rattle.planes.specs.Window.{Filtered}
use Rattle.luma_windows.specs.Decided.{shown}
use Rattle.luma_windows.proofs.turned.turn_back.Given as goal

abbrev pub invariant-loop-j : goal.invariant-loop-j
invariant-loop-j l = Filtered l.j (shown l.t) l.base 1 l.along l.initial.s l.s
