-- `put_record` meets its contract: the record's check says whether it is refused.
-- Assumes nothing.
use Rattle.bench.proofs.Facts.{text_accepted, text_refused}
use Rattle.bench.proofs.put_record.Goals as goal

pub returns-in-Ok-clause-puts : goal.returns-in-Ok-clause-puts
returns-in-Ok-clause-puts c = rw (← text_accepted _ c.in-Ok.ensures) c.put_segment.ensures.puts

pub returns-in-Err-clause-puts : goal.returns-in-Err-clause-puts
returns-in-Err-clause-puts c = rw (← text_refused _ _ c.number.ensures c.in-Err.ensures) c.put_refusal.ensures.puts
