-- The lengths so far are within their limits.
use Rattle.std.proofs.Common.{◌≡◌, true}
use Rattle.picture_record.specs.Head.{within}
use Rattle.picture_record.proofs.head.all_fit.Given as goal

abbrev pub invariant-loop-k : goal.invariant-loop-k
invariant-loop-k l = within l.head l.k ≡ true
