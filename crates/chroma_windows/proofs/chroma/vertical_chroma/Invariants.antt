-- `vertical_chroma` meets its contract. The loop's invariant: the first j lines are filtered, and the others are as
-- they were.
-- Assumes nothing.
use Rattle.filter.specs.Answer.{chroma_of}
use Rattle.filter.specs.Kernel.{kernel}
use Rattle.planes.specs.Window.{Filtered}
use Rattle.chroma_windows.proofs.chroma.vertical_chroma.Given as goal

abbrev pub invariant-loop-j : goal.invariant-loop-j
invariant-loop-j l = Filtered l.j (kernel (chroma_of l.t)) l.base 1 l.along l.initial.s l.s
