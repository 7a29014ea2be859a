-- `decide` meets its contract: the lines that it reads are the window's lines 0 and 3.
-- Assumes nothing.
use mathlib.Core.Path.{refl, ◌∙◌, ap, ap₂}
use native.Mathlib.Omega.{arith}
use Rattle.filter.specs.declared.LumaFilter.{LumaFilter}
use Rattle.lines.specs.declared.Line.{Line}
use Rattle.lines.specs.declared.LumaAnswer.{LumaAnswer}
use Rattle.lines.specs.Answer.{case_of}
use Rattle.lines.specs.Decision.{decision}
use Rattle.window_lines.proofs.InList.{line_read}
use Rattle.luma_windows.proofs.luma.decide.Goals as goal

pub returns : goal.returns
returns c =
    let t : LumaFilter = c.args.t in
    ap (λ (r : LumaAnswer). r.decision) c.luma_decision-answer.ensures
    ∙ ap₂ (λ (a b : Line). case_of (decision t.beta t.tc a b))
    (line_read _ _ _ _ 0 (omega arith) (omega arith) c.take_line-l0.ensures)
    (line_read _ _ _ _ 3 (omega arith) refl c.take_line-l3.ensures)
