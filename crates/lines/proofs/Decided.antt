-- The decision of the definitions, by the four activities, their sums and the two line decisions, in the order of
-- 8.7.2.5.3, of what the code's calls and tests gave.
use Prim.Native.Nat.{ℕ, ◌+◌, ◌*◌, ◌/◌, ◌≤◌, ◌<◌}
use mathlib.Core.Path.{◌≡◌, refl, sym, ◌∙◌, ap, ap₂}
use mathlib.Core.Bool.{Bool, true, false, cond, ◌&&◌}
use lib.Dec.{ltb}
use borrow.Author.Tests.{lt-ltb, le-ltb}
use Rattle.ints.specs.Sample.{distance}
use Rattle.lines.specs.declared.Line.{Line}
use Rattle.lines.specs.declared.LumaDecision.{LumaDecision}
use Rattle.lines.specs.declared.LumaDecision.TheVariants.{Skip, Strong, Weak}
use Rattle.lines.specs.Answer.{case_of}
use Rattle.lines.specs.Code.{d_sam_n}
use Rattle.lines.specs.Decision.{dp_of, dq_of, d_sam, decision}
use Rattle.lines.proofs.Numbers.{activity_is, dsam_is}

-- ---- dSam, by the tests that led to each answer

pub flat_no1 : {a b : ℕ} (y : Bool) → b ≤ a → false ≡ (ltb a b && y)
flat_no1 {a} {b} y h = simp (le-ltb a b h)

pub flat_no2 : {a b c c' d : ℕ} (y : Bool) → a < b → d ≤ c → c ≡ c' → false ≡ (ltb a b && (ltb c' d && y))
flat_no2 {a} {b} {c} {c'} {d} y h k e = rw (← e) (simp (lt-ltb a b h, le-ltb c d k))

pub flat_yes : {a b c c' d g g' : ℕ} (u : ℕ) → a < b → c < d → c ≡ c' → g ≡ g'
    → ltb g u ≡ (ltb a b && (ltb c' d && ltb g' u))
flat_yes {a} {b} {c} {c'} {d} u h k e e' = rw (← e, ← e') (simp (lt-ltb a b h, lt-ltb c d k))

-- ---- the decision

-- dSam of a line, as the code computes it
abbrev pub line_flat : ℕ → ℕ → ℕ → Line → Bool
line_flat β tc dpq l = d_sam_n β tc dpq l.p3 l.p0 l.q0 l.q3

-- the four activities, as the code computes them
pub record Activities (l0 l3 : Line) (dp0 dp3 dq0 dq3 : ℕ) : Type 0 where
  pub dp0_is : dp0 ≡ distance (l0.p2 + l0.p0) (2 * l0.p1)
  pub dp3_is : dp3 ≡ distance (l3.p2 + l3.p0) (2 * l3.p1)
  pub dq0_is : dq0 ≡ distance (l0.q2 + l0.q0) (2 * l0.q1)
  pub dq3_is : dq3 ≡ distance (l3.q2 + l3.q0) (2 * l3.q1)

-- the weak case, with its side flags
abbrev weak : ℕ → ℕ → ℕ → LumaDecision
weak β dp dq = Weak (ltb dp ((β + β / 2) / 8)) (ltb dq ((β + β / 2) / 8))

module _ (β tc : ℕ) {l0 l3 : Line} {dp0 dp3 dq0 dq3 : ℕ} (are : Activities l0 l3 dp0 dp3 dq0 dq3) where
  e1 : dp0 ≡ dp_of l0
  e1 = are.dp0_is ∙ sym (activity_is _ _ _)

  e2 : dp3 ≡ dp_of l3
  e2 = are.dp3_is ∙ sym (activity_is _ _ _)

  e3 : dq0 ≡ dq_of l0
  e3 = are.dq0_is ∙ sym (activity_is _ _ _)

  e4 : dq3 ≡ dq_of l3
  e4 = are.dq3_is ∙ sym (activity_is _ _ _)

  pub decided_skip : β ≤ dp0 + dq0 + (dp3 + dq3) → Skip ≡ case_of (decision β tc l0 l3)
  unfolding case_of decision
  decided_skip h = cc (le-ltb _ _ h, e1, e2, e3, e4)

  module _ (h : dp0 + dq0 + (dp3 + dq3) < β) where
    by_both : (f : Bool) → f ≡ (d_sam β tc (2 * (dp0 + dq0)) l0 && d_sam β tc (2 * (dp3 + dq3)) l3)
        → cond f Strong (weak β (dp0 + dp3) (dq0 + dq3)) ≡ case_of (decision β tc l0 l3)
    unfolding case_of decision
    by_both true e = cc (lt-ltb _ _ h, e1, e2, e3, e4)
    by_both false e = cc (lt-ltb _ _ h, e1, e2, e3, e4)

    module _ {flat : Bool}
        (e : flat ≡ (line_flat β tc (2 * (dp0 + dq0)) l0 && line_flat β tc (2 * (dp3 + dq3)) l3)) where
      by_lines : cond flat Strong (weak β (dp0 + dp3) (dq0 + dq3)) ≡ case_of (decision β tc l0 l3)
      by_lines = by_both _ (e ∙ ap₂ ◌&&◌ (sym (dsam_is β tc _ l0)) (sym (dsam_is β tc _ l3)))

      pub decided_weak : flat ≡ false → weak β (dp0 + dp3) (dq0 + dq3) ≡ case_of (decision β tc l0 l3)
      decided_weak n = rw n at by_lines

      pub decided_strong : flat ≡ true → Strong ≡ case_of (decision β tc l0 l3)
      decided_strong y = rw y at by_lines

    -- the same by the two line decisions, one after the other
    module _ {dSam0 : Bool} (s0 : dSam0 ≡ d_sam_n β tc (2 * (dp0 + dq0)) l0.p3 l0.p0 l0.q0 l0.q3) where
      pub decided_weak0 : dSam0 ≡ false → weak β (dp0 + dp3) (dq0 + dq3) ≡ case_of (decision β tc l0 l3)
      decided_weak0 n0 =
          decided_weak refl (ap (λ b. b && line_flat β tc (2 * (dp3 + dq3)) l3) (sym s0 ∙ n0))

      pub decided_weak3 : dSam0 ≡ true → {dSam3 : Bool} → dSam3 ≡ d_sam_n β tc (2 * (dp3 + dq3)) l3.p3 l3.p0 l3.q0 l3.q3
          → dSam3 ≡ false → weak β (dp0 + dp3) (dq0 + dq3) ≡ case_of (decision β tc l0 l3)
      decided_weak3 y0 s3 n3 = decided_weak refl (ap₂ ◌&&◌ (sym s0 ∙ y0) (sym s3 ∙ n3))
