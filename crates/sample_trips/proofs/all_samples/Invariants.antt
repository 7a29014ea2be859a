-- The loop's invariant: the samples before this one came back, and their floats are in.
use Prim.Native.Nat.{◌^◌, ◌≤◌}
use mathlib.Core.Path.{◌≡◌}
use Rattle.sample_trips.specs.Trip.{patterns}
use Rattle.sample_trips.proofs.all_samples.Given as goal

abbrev pub invariant-loop-sample : goal.invariant-loop-sample
invariant-loop-sample l =
    (l.sample ≤ 2 ^ l.depth) × (l.count ≡ l.sample) × (l.patterns ≡ patterns l.depth l.chroma l.sample)
