-- `line` meets its contract: each field is what its `sample` ensures.
-- Assumes nothing.
use Rattle.bench_record.specs.Record.{line_of_record}
use Rattle.bench_record.proofs.fields.Record.line.Goals as goal

pub returns : goal.returns
unfolding line_of_record
returns c =
    λ i. record {
      p3 = c.sample.ensures i;
      p2 = c.sample-2.ensures i;
      p1 = c.sample-3.ensures i;
      p0 = c.sample-4.ensures i;
      q0 = c.sample-5.ensures i;
      q1 = c.sample-6.ensures i;
      q2 = c.sample-7.ensures i;
      q3 = c.sample-8.ensures i;
    }
