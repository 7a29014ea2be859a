-- `put_segment` meets its contract: `segment_made` puts together what the calls gave.
-- Assumes nothing.
use mathlib.Core.List.{append_assoc}
use Rattle.bench_record.proofs.Refused.{accepted}
use Rattle.bench.proofs.Facts.{segment_made}
use Rattle.bench.proofs.segment.put_segment.Goals as goal

pub thresholds_of-t-requires : goal.thresholds_of-t-requires
thresholds_of-t-requires c =
    rw c.head.ensures (accepted _ c.requires.accepted)

pub returns-clause-puts : goal.returns-clause-puts
returns-clause-puts c =
    let decided = rw c.lines-all.ensures at c.decide-answer.ensures in
    let made =
    segment_made _ c.head.ensures c.thresholds_of-t.ensures c.lines-all.ensures decided c.filtered.ensures
    in
    rw (← made, c.put_lines.ensures.puts, c.put_first.ensures.puts, append_assoc)
