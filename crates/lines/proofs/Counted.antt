-- What the counts of C-20 mean: at a general depth, samples beyond the counted ones next to the edge stay as they were,
-- whatever the decision, and the fourth always does. Each count is reached, as a step at depth 8 shows.
use Prim.Native.Nat.{ℕ, zero, suc, ◌*◌, ◌≤◌}
use mathlib.Core.Path.{◌≡◌, refl}
use mathlib.Core.Bool.{Bool, true, false, cond}
use native.Mathlib.Omega.{arith}
use lib.Dec.{ltb, eqb}
use lib.IntN.{ℤ, pos}
use borrow.Author.Tests.{ne_eqb}
use Rattle.ints.specs.Int.{◌⊞◌, ◌⊟◌, neg, ◌⊠◌, lt, ◌>>◌, clip3, abs, nat_of}
use Rattle.lines.specs.declared.Line.{Line}
use Rattle.lines.specs.declared.LumaDecision.{LumaDecision}
use Rattle.lines.specs.declared.LumaDecision.TheVariants.{Strong, Weak}
use Rattle.lines.specs.declared.SideCounts.{SideCounts}
use Rattle.lines.specs.Answer.{values_of}
use Rattle.lines.specs.Counted.{from_edge, p_from_edge, q_from_edge, SameBeyond}
use Rattle.lines.specs.Decision.{Decision, side_count, counts_of}
use Rattle.lines.specs.Luma.{clip1, near, strong_line, delta0, side_delta, second, weak_by, weak_line, luma_line}
use Rattle.lines.proofs.Within.{of_chosen}

-- ---- a count is 3 at the most

pub count_most : (d_e : ℕ) (flag : Bool) → side_count d_e flag ≤ 3
unfolding side_count
count_most d_e flag = go (eqb d_e 0) (eqb d_e 2) flag
  where
    go : (skip strong on : Bool) → cond skip 0 (cond strong 3 (cond on 2 1)) ≤ 3
    go true strong on = omega arith
    go false true on = omega arith
    go false false true = omega arith
    go false false false = omega arith

-- ---- one side: only its fourth sample stays, or all from the second or the third on by the side's flag

fourth_stays : (a b c a' b' c' x3 i : ℕ) → 3 ≤ i → from_edge a b c x3 i ≡ from_edge a' b' c' x3 i
fourth_stays a b c a' b' c' x3 zero h = absurd (omega arith)
fourth_stays a b c a' b' c' x3 (suc zero) h = absurd (omega arith)
fourth_stays a b c a' b' c' x3 (suc (suc zero)) h = absurd (omega arith)
fourth_stays a b c a' b' c' x3 (suc (suc (suc i))) h = refl

by_flag : (flag : Bool) (a b a' x1 x2 x3 i : ℕ) → cond flag 2 1 ≤ i
    → from_edge a (cond flag b x1) x2 x3 i ≡ from_edge a' x1 x2 x3 i
by_flag true a b a' x1 x2 x3 zero h = absurd (omega arith)
by_flag true a b a' x1 x2 x3 (suc zero) h = absurd (omega arith)
by_flag true a b a' x1 x2 x3 (suc (suc i)) h = refl
by_flag false a b a' x1 x2 x3 zero h = absurd (omega arith)
by_flag false a b a' x1 x2 x3 (suc i) h = refl

-- ---- one line

same : (counts : SideCounts) (l : Line) → SameBeyond counts l l
same counts l = record { p_same = λ i h. refl; q_same = λ i h. refl }

strong_beyond : (t : ℕ) (l : Line) → SameBeyond (record { p = 3; q = 3 }) l (strong_line t l)
unfolding strong_line
strong_beyond t l = record { p_same = fourth_stays _ _ _ _ _ _ l.p3; q_same = fourth_stays _ _ _ _ _ _ l.q3 }

weak_by_beyond : (largest t : ℕ) (d_ep d_eq : Bool) (l : Line) (delta : ℤ)
    → SameBeyond (record { p = cond d_ep 2 1; q = cond d_eq 2 1 }) l (weak_by largest t d_ep d_eq l delta)
unfolding weak_by second
weak_by_beyond largest t d_ep d_eq l delta =
    record {
      p_same = by_flag d_ep _ _ _ l.p1 l.p2 l.p3;
      q_same = by_flag d_eq _ _ _ l.q1 l.q2 l.q3;
    }

weak_beyond : (largest t : ℕ) (d_ep d_eq : Bool) (l : Line)
    → SameBeyond (record { p = cond d_ep 2 1; q = cond d_eq 2 1 }) l (weak_line largest t d_ep d_eq l)
unfolding weak_line
weak_beyond largest t d_ep d_eq l =
    of_chosen (SameBeyond _ l) (ltb (abs (delta0 (pos l.p1) (pos l.p0) (pos l.q0) (pos l.q1))) (t * 10))
    (weak_by_beyond largest t d_ep d_eq l _)
    (same _ l)

-- a line, by any decision
pub line_beyond : (d : Decision) (largest t : ℕ) (l : Line) → SameBeyond (counts_of d) l (luma_line d largest t l)
unfolding luma_line side_count
line_beyond d largest t l = go d.d_e d.d_ep d.d_eq
  where
    go : (d_e : ℕ) (d_ep d_eq : Bool)
        → let e : Decision = record { d_e = d_e; d_ep = d_ep; d_eq = d_eq } in
        SameBeyond (counts_of e) l (luma_line e largest t l)
    go zero d_ep d_eq = same _ l
    go (suc zero) d_ep d_eq = weak_beyond largest t d_ep d_eq l
    go (suc (suc zero)) d_ep d_eq = strong_beyond t l
    go (suc (suc (suc n))) d_ep d_eq =
        let large : ℕ = suc (suc (suc n)) in
        simp (ne_eqb large 2 (λ e. omega arith), ne_eqb large 1 (λ e. omega arith)) (same _ l)

-- the last counted sample of each side can move: a step of 12 by the strong filter, tC 5, and by the weak one with both
-- flags and with none
abbrev stepped : Line
stepped = record { p3 = 100; p2 = 100; p1 = 100; p0 = 100; q0 = 112; q1 = 112; q2 = 112; q3 = 112 }

abbrev filtered_by : LumaDecision → Line
filtered_by c = luma_line (values_of c) 255 5 stepped

pub last_counted_moves :
    (p_from_edge (filtered_by Strong) 2 ≡ 102) × (q_from_edge (filtered_by Strong) 2 ≡ 111)
    × (p_from_edge (filtered_by (Weak true true)) 1 ≡ 102) × (q_from_edge (filtered_by (Weak true true)) 1 ≡ 110)
    × (p_from_edge (filtered_by (Weak false false)) 0 ≡ 105) × (q_from_edge (filtered_by (Weak false false)) 0 ≡ 107)
unfolding ◌⊞◌ ◌⊟◌ neg ◌⊠◌ lt ◌>>◌ clip3 abs nat_of clip1 near strong_line delta0 side_delta second weak_by weak_line
    luma_line
last_counted_moves = (refl, refl, refl, refl, refl, refl)
