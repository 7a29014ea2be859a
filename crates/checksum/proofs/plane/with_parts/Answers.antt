-- `with_parts` meets its contract: each turn adds the part of the next sample, masked.
-- Assumes nothing.
use Rattle.std.proofs.Common.{◌≡◌, ◌+◌, ◌^◌, get_or, sym, add-zero, mod-eq_of_lt}
use Rattle.checksum.specs.Rows.{part}
use Rattle.checksum.proofs.Rows.{no_parts, parts_more}
use Rattle.checksum.proofs.plane.with_parts.Goals as goal

-- nothing is in yet, and the sum so far has 32 bits
pub loop-x-init : goal.loop-x-init
loop-x-init g c high gives =
    let a = c.args in
    let none = no_parts high a.plane.now a.start a.row in
    sym (rw (none, add-zero) (mod-eq_of_lt c.ranges.before.fits))

pub loop-x-preserved : goal.loop-x-preserved
loop-x-preserved g c high gives =
    let l = c.loop-x in
    let a = c.args in
    let byte : c.part_of-byte.result ≡ part high (get_or a.plane.now (a.start + l.x) 0) =
    gives _ _ (c.type_inv.plane (a.start + l.x)).fits c.part_of-byte.ensures in
    let next = parts_more high a.plane.now a.start a.row (2 ^ 32) a.before l.x (l.invariant high gives) in
    rw (c.with_byte-sum.ensures, c.folded.ensures, byte) next
