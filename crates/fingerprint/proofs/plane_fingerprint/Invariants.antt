-- `plane_fingerprint`'s loop: y rows are in.
use Rattle.std.proofs.Common.{◌≡◌, ◌*◌, take}
use Rattle.fingerprint.specs.Fnv.{basis, with_samples, shown}
use Rattle.fingerprint.proofs.plane_fingerprint.Given as goal

abbrev pub invariant-loop-y : goal.invariant-loop-y
invariant-loop-y l =
    l.sum ≡ with_samples basis (take (l.y * l.view.width) (shown l.view.samples.now l.view.width l.view.height))
