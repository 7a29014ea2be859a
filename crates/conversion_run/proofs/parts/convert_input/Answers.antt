-- `convert_input` meets its contract: one part after another.
use Rattle.std.proofs.Common.{◌*◌, ◌+◌, ◌≡◌, min, arith}
use Rattle.conversion_run.proofs.Streams.{converts_none, converts_on, converts_less}
use Rattle.conversion_run.proofs.parts.convert_input.Goals as goal

pub loop-part-init : goal.loop-part-init
loop-part-init g c = converts_none _ _ (omega arith)

pub returns-then-not-branch : goal.returns-then-not-branch
returns-then-not-branch g c =
    let k = c.loop-part.part in
    let before : min (k * 32768) c.args.most ≡ k * 32768 =
    omega (arith, c.loop-part-test.true, c.div_ceil-part-end.ensures) in
    let next = rw c.if-not-branch.true at c.in_ok-convert_next.ensures in
    converts_less {n = k * 32768 + c.min-n.result} (omega (arith, before, c.min-n.ensures))
    (converts_on (rw before (omega arith)) (omega (arith, before)) c.loop-part.invariant next)

pub loop-part-preserved : goal.loop-part-preserved
loop-part-preserved g c =
    let k = c.loop-part.part in
    let before : min (k * 32768) c.args.most ≡ k * 32768 =
    omega (arith, c.loop-part-test.true, c.div_ceil-part-end.ensures) in
    let next = rw c.if-not-branch.false at c.in_ok-convert_next.ensures in
    converts_on (rw before (omega arith)) (omega (arith, before, c.min-n.ensures)) c.loop-part.invariant next
