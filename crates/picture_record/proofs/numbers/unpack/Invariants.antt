-- The first k numbers are there.
use Rattle.std.proofs.Common.{◌≡◌, take}
use Rattle.picture_record.specs.Numbers.{halves}
use Rattle.picture_record.proofs.numbers.unpack.Given as goal

abbrev pub invariant-loop-k : goal.invariant-loop-k
invariant-loop-k l = take l.k l.out ≡ halves l.bytes l.k
