-- `samples_above` meets its contract: the tests of the four lines are the definition's.
-- Assumes nothing.
use Rattle.bench_record.proofs.AnyAbove.{record_any}
use Rattle.bench_record.proofs.fields.Record.samples_above.Goals as goal

pub returns : goal.returns
returns c = rw c.one_line_above.ensures (rw c.lines.ensures (record_any c.args.largest c.args.self.bytes.now))
