-- `sample` meets its contract: the number of its two bytes.
-- Assumes nothing.
use Rattle.std.proofs.Common.{arith}
use Rattle.bench_record.specs.Record.{sample_at}
use Rattle.bench_record.proofs.fields.sample.Goals as goal

pub returns : goal.returns
unfolding sample_at
returns c = omega (arith, c.from_le_bytes.ensures)
