-- What is done with the four lines of a window: decided once, filtered by that decision, turned where they lie below
-- each other.
use Rattle.std.specs.Prelude.{ℕ, ◌<◌, ◌≡◌, List, get_or}
use Rattle.filter.specs.declared.LumaFilter.{LumaFilter}
use Rattle.filter.specs.Kernel.{line_of, samples_of}
use Rattle.lines.specs.declared.Line.{Line}
use Rattle.lines.specs.declared.LumaAnswer.{LumaAnswer}
use Rattle.lines.specs.declared.LumaDecision.{LumaDecision}
use Rattle.lines.specs.Answer.{case_of, answer_of}
use Rattle.lines.specs.Decision.{Decision, decision}
use Rattle.lines.specs.Luma.{luma_line}
use Rattle.picture.specs.Plane.{Plane}
use Rattle.planes.specs.Window.{spot, window_at}
use Rattle.window_lines.specs.declared.Lines.{Lines}

abbrev pub each : (Line → Line) → Lines → Lines
each f w = record { l0 = f w.l0; l1 = f w.l1; l2 = f w.l2; l3 = f w.l3 }

-- the decision, from lines 0 and 3
abbrev pub decision_at : LumaFilter → Plane → LumaDecision
decision_at t W = case_of (decision t.beta t.tc (line_of W 0) (line_of W 3))

-- the same decision with its counts
abbrev pub answer_at : LumaFilter → Plane → LumaAnswer
answer_at t W = answer_of (decision t.beta t.tc (line_of W 0) (line_of W 3))

-- each line by one decision
unfoldable pub decided_by : Decision → LumaFilter → Plane → Plane
decided_by d t W i j = get_or (samples_of (luma_line d t.largest t.tc (line_of W j))) i 0

-- a list holds a window's 32 samples, its four lines side by side
abbrev pub Turned : Plane → List ℕ → Type 0
Turned W list = (i j : ℕ) → i < 8 → j < 4 → get_or list (spot 0 4 1 i j) 0 ≡ W i j

-- the window that such a list holds, whatever stood in its place
abbrev pub shown : List ℕ → Plane → Plane
shown list W = window_at list 0 4 1
