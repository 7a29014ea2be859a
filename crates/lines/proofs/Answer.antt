-- The enum LumaDecision loses nothing that is read of a decision: filtering by a decision's case is filtering by the
-- decision, and the counts of the case are the decision's.
use Prim.Native.Nat.{ℕ, zero, suc, ◌+◌, ◌*◌, ◌/◌, ◌^◌, ◌≤◌}
use mathlib.Core.Path.{◌≡◌, refl, ap, ◌∙◌}
use mathlib.Core.Bool.{Bool, true, false, cond, ◌&&◌}
use native.Mathlib.Omega.{arith}
use lib.Dec.{ltb}
use Rattle.lines.specs.declared.Line.{Line}
use Rattle.lines.specs.declared.LumaAnswer.{LumaAnswer}
use Rattle.lines.specs.declared.LumaDecision.{LumaDecision}
use Rattle.lines.specs.declared.LumaDecision.TheVariants.{Skip}
use Rattle.lines.specs.Answer.{values_of, case_of, answer_of}
use Rattle.lines.specs.Decision.{Decision, dp_of, dq_of, d_sam, decision, side_count, counts_of}
use Rattle.lines.specs.Luma.{luma_line}

-- each decision with dE 0, 1 or 2
by_case : (P : Decision → Type 0)
    → ((p q : Bool) → P (record { d_e = 0; d_ep = p; d_eq = q }))
    → ((p q : Bool) → P (record { d_e = 1; d_ep = p; d_eq = q }))
    → ((p q : Bool) → P (record { d_e = 2; d_ep = p; d_eq = q }))
    → (d : Decision) → d.d_e ≤ 2 → P d
by_case P skip weak strong d = go d.d_e d.d_ep d.d_eq
  where
    go : (n : ℕ) (p q : Bool) → n ≤ 2 → P (record { d_e = n; d_ep = p; d_eq = q })
    go zero p q h = skip p q
    go (suc zero) p q h = weak p q
    go (suc (suc zero)) p q h = strong p q
    go (suc (suc (suc n))) p q h = absurd (omega arith)

pub case_filters : (d : Decision) (m t : ℕ) (l : Line) → d.d_e ≤ 2
    → luma_line (values_of (case_of d)) m t l ≡ luma_line d m t l
unfolding case_of luma_line
case_filters d m t l =
    by_case (λ (e : Decision). luma_line (values_of (case_of e)) m t l ≡ luma_line e m t l)
    (λ p q. refl)
    (λ p q. refl)
    (λ p q. refl)
    d

-- and the case of a decision keeps its dE
pub case_keeps : (d : Decision) → d.d_e ≤ 2 → (values_of (case_of d)).d_e ≡ d.d_e
unfolding case_of
case_keeps = by_case (λ e. (values_of (case_of e)).d_e ≡ e.d_e) (λ p q. refl) (λ p q. refl) (λ p q. refl)

-- the counts of a decision's case are the decision's
case_counts : (d : Decision) → d.d_e ≤ 2 → counts_of (values_of (case_of d)) ≡ counts_of d
unfolding case_of side_count
case_counts =
    by_case (λ (e : Decision). counts_of (values_of (case_of e)) ≡ counts_of e) (λ p q. refl) (λ p q. refl)
    (λ p q. refl)

known : (t s p q : Bool) → (cond t (record { d_e = cond s 2 1; d_ep = p; d_eq = q }) (values_of Skip)).d_e ≤ 2
known true true p q = omega arith
known true false p q = omega arith
known false s p q = omega arith

-- dE is 0, 1 or 2
pub decision_known : (β tc : ℕ) (l0 l3 : Line) → (decision β tc l0 l3).d_e ≤ 2
unfolding decision
decision_known β tc l0 l3 =
    known (ltb (dp_of l0 + dq_of l0 + (dp_of l3 + dq_of l3)) β)
    (d_sam β tc (2 * (dp_of l0 + dq_of l0)) l0 && d_sam β tc (2 * (dp_of l3 + dq_of l3)) l3)
    (ltb (dp_of l0 + dp_of l3) ((β + β / 2 ^ 1) / 2 ^ 3))
    (ltb (dq_of l0 + dq_of l3) ((β + β / 2 ^ 1) / 2 ^ 3))

-- a case that is the decision's, with the counts of that case, is the answer
pub decision_answered : (β tc : ℕ) (l0 l3 : Line) {c : LumaDecision} {r : LumaAnswer}
    → c ≡ case_of (decision β tc l0 l3) → r.decision ≡ c → r.counts ≡ counts_of (values_of c)
    → r ≡ answer_of (decision β tc l0 l3)
decision_answered β tc l0 l3 {r = r} e case-is counts-are =
    let d : Decision = decision β tc l0 l3 in
    let of-case : r.counts ≡ counts_of d =
    counts-are ∙ ap (λ (k : LumaDecision). counts_of (values_of k)) e ∙ case_counts d (decision_known β tc l0 l3) in
    λ i. record { decision = (case-is ∙ e) i; counts = of-case i }
