-- `put_bytes`: the bytes of s so far are appended.
use Rattle.std.proofs.Common.{take}
use Rattle.text.specs.Text.{Appended}
use Rattle.text.proofs.puts.put_bytes.Given as goal

abbrev pub invariant-loop-b : goal.invariant-loop-b
invariant-loop-b l = Appended l.at (take l.b-index l.s) l.initial.out l.out l.next
