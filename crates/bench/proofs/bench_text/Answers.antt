-- `bench_text` meets its contract: the length says which of the three texts it is.
-- Assumes nothing.
use mathlib.Core.Path.{sym, ◌∙◌}
use Rattle.bench.proofs.Facts.{text_whole, text_short, text_none}
use Rattle.bench.proofs.bench_text.Goals as goal

pub returns-in-Some-clause-text : goal.returns-in-Some-clause-text
returns-in-Some-clause-text c =
    let whole = c.in-Some.ensures in
    rw (c.put_record.ensures.puts, c.new-text.ensures, whole.1) (text_whole _ whole.0)

pub returns-then-not-is_empty-clause-text : goal.returns-then-not-is_empty-clause-text
returns-then-not-is_empty-clause-text c =
    rw (c.push_bytes.ensures, c.new-text.ensures)
    (text_short _ c.in_default.ensures (sym c.is_empty.ensures ∙ c.if-not-is_empty.true))

pub returns-else-not-is_empty-clause-text : goal.returns-else-not-is_empty-clause-text
returns-else-not-is_empty-clause-text c =
    rw c.new-text.ensures (text_none _ (sym c.is_empty.ensures ∙ c.if-not-is_empty.false))
