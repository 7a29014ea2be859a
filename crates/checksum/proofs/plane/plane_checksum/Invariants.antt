-- `plane_checksum`'s loop: the first y rows are in, modulo 2^32.
use Rattle.std.proofs.Common.{◌≡◌, ◌%◌, ◌^◌}
use Rattle.checksum.proofs.Rows.{rows_sum}
use Rattle.checksum.proofs.plane.plane_checksum.Given as goal

abbrev pub invariant-loop-y : goal.invariant-loop-y
invariant-loop-y l = l.sum ≡ rows_sum l.depth l.plane l.width l.y % 2 ^ 32
