-- `convert_records` meets its contract: each turn converts one more record.
-- Assumes nothing.
use Rattle.std.proofs.Common.{arith}
use Rattle.conversion.proofs.Records.{one_more, all_through}
use Rattle.conversion.proofs.strengths.convert_records.Goals as goal

pub loop-n-preserved : goal.loop-n-preserved
loop-n-preserved c =
    let l = c.loop-n in
    let cells = c.args.cells.now in
    rw c.convert_record.ensures (one_more cells l.cells l.n (omega (arith, l.invariant.long)) l.invariant)

pub returns : goal.returns
returns c =
    let l = c.loop-n in
    all_through c.args.cells.now l.cells l.n (omega (arith, l.invariant.long)) l.invariant
