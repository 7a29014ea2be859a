-- `unpack` meets its contract: each number is its two bytes, joined.
-- Assumes nothing.
use native.Mathlib.Omega.{arith}
use Rattle.picture_record.proofs.Joined.{more_halves}
use Rattle.picture_record.proofs.numbers.unpack.Goals as goal

pub loop-k-preserved : goal.loop-k-preserved
loop-k-preserved c =
    let l = c.loop-k in
    more_halves c.args.bytes.now l.out l.k l.invariant (omega arith) (omega arith) c.from_le_bytes.ensures
