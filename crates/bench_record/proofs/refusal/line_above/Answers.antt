-- `line_above` meets its contract: the eight tests are the definition's.
-- Assumes nothing.
use Rattle.std.proofs.Common.{◌∙◌}
use Rattle.bench_record.proofs.AnyAbove.{line_any}
use Rattle.bench_record.proofs.refusal.line_above.Goals as goal

pub returns : goal.returns
returns c = c.one_above.ensures ∙ line_any c.args.largest c.args.l
