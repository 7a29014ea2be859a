-- `differing_row`: the differences among the first x samples.
use Rattle.std.proofs.Common.{◌≡◌, ◌≤◌, get_or}
use Rattle.filter.specs.Count.{differ}
use Rattle.ints.specs.Sum.{sum}
use Rattle.tile_parts.proofs.counts.differing_row.Given as goal

abbrev pub invariant-loop-x : goal.invariant-loop-x
invariant-loop-x l = (l.n ≡ sum l.x (λ k. differ (get_or l.cut k 0) (get_or l.out k 0))) × (l.n ≤ l.x)
