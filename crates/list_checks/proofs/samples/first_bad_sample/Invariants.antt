-- `first_bad_sample` meets its contract. The loop's invariant: the samples passed are not above the largest.
-- Assumes nothing.
use Rattle.std.proofs.Common.{ℕ, ◌<◌, ◌≡◌, false}
use Rattle.list_checks.specs.Samples.{above}
use Rattle.list_checks.proofs.samples.first_bad_sample.Given as goal

abbrev pub invariant-loop-k : goal.invariant-loop-k
invariant-loop-k l = (i : ℕ) → i < l.k → (above l.largest l.plane).bad i ≡ false
