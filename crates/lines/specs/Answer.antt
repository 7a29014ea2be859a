-- The enum LumaDecision and the standard's dE, dEp and dEq: which values each case stands for, and which case a
-- decision is. The answer is the case and the pair of counts.
use Rattle.std.specs.Prelude.{true, false, cond, eqb}
use Rattle.lines.specs.declared.LumaAnswer.{LumaAnswer}
use Rattle.lines.specs.declared.LumaDecision.{LumaDecision}
use Rattle.lines.specs.declared.LumaDecision.TheVariants.{Skip, Strong, Weak}
use Rattle.lines.specs.Decision.{Decision, counts_of}

-- dE, dEp and dEq of each case. The strong filter reads neither dEp nor dEq; both stand as 1 there.
abbrev pub values_of : LumaDecision → Decision
values_of Skip = record { d_e = 0; d_ep = false; d_eq = false }
values_of Strong = record { d_e = 2; d_ep = true; d_eq = true }
values_of (Weak d_ep d_eq) = record { d_e = 1; d_ep = d_ep; d_eq = d_eq }

-- the case of a decision
unfoldable pub case_of : Decision → LumaDecision
case_of d = cond (eqb d.d_e 0) Skip (cond (eqb d.d_e 2) Strong (Weak d.d_ep d.d_eq))

-- what is answered of a decision
abbrev pub answer_of : Decision → LumaAnswer
answer_of d = record { decision = case_of d; counts = counts_of d }
