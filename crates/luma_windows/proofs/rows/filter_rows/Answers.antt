-- `filter_rows` meets its contract: each arm knows the variant, reads the window's lines and lays down what it made
-- of them.
-- Assumes nothing.
use Rattle.std.proofs.Common.{rules}
use Rattle.filter.specs.declared.LumaFilter.{LumaFilter}
use Rattle.lines.specs.Luma.{strong_line, weak_line}
use Rattle.luma_windows.proofs.Decided.{decided_as, each_laid, none_decided, strong_decided, weak_decided}
use Rattle.luma_windows.proofs.rows.filter_rows.Goals as goal

pub returns-in-Skip : goal.returns-in-Skip
returns-in-Skip c =
    decided_as _ _ _ _ c.in-Skip.is (none_decided _ _ _ _ _)

pub returns-in-Strong : goal.returns-in-Strong
returns-in-Strong c =
    let t : LumaFilter = c.args.t in
    decided_as t _ _ _ c.in-Strong.is
    (strong_decided t _ _ _
    (each_laid (strong_line t.tc) _ _ _ c.take_lines-w.ensures (search rules)
    c.put_rows.ensures))

pub returns-in-Weak : goal.returns-in-Weak
returns-in-Weak c =
    let t : LumaFilter = c.args.t in
    decided_as t _ _ _ c.in-Weak.is
    (weak_decided t _ _ _ _ _
    (each_laid (weak_line t.largest t.tc _ _) _ _ _ c.take_lines-w-in-Weak.ensures
    (search rules)
    c.put_rows-in-Weak.ensures))
