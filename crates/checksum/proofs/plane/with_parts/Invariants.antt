-- `with_parts`'s loop: the parts of the first x samples are in, modulo 2^32.
use Rattle.std.proofs.Common.{◌≡◌, ℕ, Bool, ◌+◌, ◌%◌, ◌^◌, ◌<◌}
use Rattle.checksum.specs.Rows.{part, parts_sum}
use Rattle.checksum.proofs.plane.with_parts.Given as goal

abbrev pub invariant-loop-x : goal.invariant-loop-x
invariant-loop-x g l =
    (high : Bool) → ((s r : ℕ) → s < 2 ^ 16 → goal.F-post g l.part_of s r → r ≡ part high s)
    → l.sum ≡ (l.before + parts_sum high l.plane l.start l.x l.row) % 2 ^ 32
