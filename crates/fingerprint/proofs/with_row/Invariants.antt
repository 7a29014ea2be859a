-- `with_row`'s loop: x samples of the row are in.
use Rattle.std.proofs.Common.{◌≡◌, take}
use Rattle.fingerprint.specs.Fnv.{with_samples, row_shown}
use Rattle.fingerprint.proofs.with_row.Given as goal

abbrev pub invariant-loop-x : goal.invariant-loop-x
invariant-loop-x l =
    l.sum ≡ with_samples l.before (take l.x (row_shown l.plane.samples.now l.plane.width l.plane.height l.y))
