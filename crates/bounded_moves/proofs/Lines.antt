-- How far a line's samples move.
use Prim.Native.Nat.{ℕ, zero, suc, ◌*◌, ◌/◌, ◌^◌, ◌≤◌}
use mathlib.Core.Bool.{Bool, true, false}
use native.Mathlib.Omega.{arith}
use lib.Dec.{ltb, eqb}
use lib.IntN.{ℤ, pos}
use Rattle.ints.specs.Int.{◌⊞◌, ◌⊟◌, neg, ◌>>◌, clip3, abs, nat_of}
use Rattle.ints.specs.Sample.{distance}
use Rattle.ints.proofs.Laws.{naturals, shr-pos, plus_diff, minus_diff, pos_diff, by_diff, clip_sym, clip_unit}
use Rattle.lines.specs.declared.ChromaLine.{ChromaLine}
use Rattle.lines.specs.declared.Line.{Line}
use Rattle.lines.specs.Chroma.{chroma_line}
use Rattle.lines.specs.Counted.{from_edge}
use Rattle.lines.specs.Decision.{Decision}
use Rattle.lines.specs.Luma.{clip1, near, strong_line, delta0, side_delta, second, weak_by, weak_line, luma_line}
use Rattle.lines.proofs.Numbers.{near_is}
use Rattle.lines.proofs.Within.{Within, clip1_within, of_chosen}
use Rattle.bounded_moves.specs.Segments.{strong_most, weak_most, MovedAtMost}

-- ---- one sample

-- Clip3(x - 2 * tC, x + 2 * tC, v)
near_moves : (t x n : ℕ) → distance x (nat_of (near (pos t) (pos x) (pos n))) ≤ 2 * t
near_moves t x n = rw near_is (omega arith)

-- Clip1(x + Clip3(-t, t, v)), of a sample in range
up_moves : {largest x : ℕ} (t : ℕ) → x ≤ largest → (v : ℤ)
    → distance x (clip1 largest (pos x ⊞ clip3 (neg (pos t)) (pos t) v)) ≤ t
unfolding clip1 nat_of
up_moves {largest} {x} t h = by_diff _ (λ a b. simp (clip_sym, pos_diff x, plus_diff, clip_unit) (omega arith))

down_moves : {largest x : ℕ} (t : ℕ) → x ≤ largest → (v : ℤ)
    → distance x (clip1 largest (pos x ⊟ clip3 (neg (pos t)) (pos t) v)) ≤ t
unfolding clip1 nat_of
down_moves {largest} {x} t h = by_diff _ (λ a b. simp (clip_sym, pos_diff x, minus_diff, clip_unit) (omega arith))

-- the second sample of a side, where its flag is set and where it is not
second_moves : {largest x1 : ℕ} (t : ℕ) (on : Bool) (x2 x0 : ℕ) (d : ℤ) → x1 ≤ largest
    → distance x1 (second largest (pos t >> 1) on x2 x1 x0 d) ≤ t / 2 ^ 1
unfolding second side_delta
second_moves t true x2 x0 d h = rw shr-pos (up_moves (t / 2 ^ 1) h _)
second_moves t false x2 x0 d h = omega arith

pub stays : (x n : ℕ) → distance x x ≤ n
stays x n = omega arith

-- ---- one luma line

same : (most : ℕ → ℕ) (l : Line) → MovedAtMost most l l
same most l = record { p_most = λ i. stays _ _; q_most = λ i. stays _ _ }

-- sample by sample of a side, from the edge on; there are four
pub side : (most : ℕ → ℕ) (a0 a1 a2 a3 b0 b1 b2 b3 : ℕ)
    → distance a0 b0 ≤ most 0 → distance a1 b1 ≤ most 1 → distance a2 b2 ≤ most 2 → distance a3 b3 ≤ most 3
    → (i : ℕ) → distance (from_edge a0 a1 a2 a3 i) (from_edge b0 b1 b2 b3 i) ≤ most i
side most a0 a1 a2 a3 b0 b1 b2 b3 h0 h1 h2 h3 zero = h0
side most a0 a1 a2 a3 b0 b1 b2 b3 h0 h1 h2 h3 (suc zero) = h1
side most a0 a1 a2 a3 b0 b1 b2 b3 h0 h1 h2 h3 (suc (suc zero)) = h2
side most a0 a1 a2 a3 b0 b1 b2 b3 h0 h1 h2 h3 (suc (suc (suc zero))) = h3
side most a0 a1 a2 a3 b0 b1 b2 b3 h0 h1 h2 h3 (suc (suc (suc (suc i)))) = stays 0 _

pub strong_moves : (t : ℕ) (l : Line) → MovedAtMost (strong_most t) l (strong_line t l)
unfolding strong_line
strong_moves t l =
    simp naturals
    (record {
      p_most = side _ _ _ _ _ _ _ _ _ (near_moves t _ _) (near_moves t _ _) (near_moves t _ _) (stays _ _);
      q_most = side _ _ _ _ _ _ _ _ _ (near_moves t _ _) (near_moves t _ _) (near_moves t _ _) (stays _ _);
    })

weak_by_moves : {largest : ℕ} {l : Line} (t : ℕ) (p q : Bool) (v : ℤ) → Within largest l
    → MovedAtMost (weak_most t) l (weak_by largest t p q l (clip3 (neg (pos t)) (pos t) v))
unfolding weak_by
weak_by_moves t p q v w =
    record {
      p_most =
          side (weak_most t) _ _ _ _ _ _ _ _ (up_moves t w.p0≤ v) (second_moves t p _ _ _ w.p1≤) (stays _ _)
          (stays _ _);
      q_most =
          side (weak_most t) _ _ _ _ _ _ _ _ (down_moves t w.q0≤ v) (second_moves t q _ _ _ w.q1≤) (stays _ _)
          (stays _ _);
    }

pub weak_moves : {largest : ℕ} {l : Line} (t : ℕ) (p q : Bool) → Within largest l
    → MovedAtMost (weak_most t) l (weak_line largest t p q l)
unfolding weak_line
weak_moves {largest} {l} t p q w =
    of_chosen (MovedAtMost (weak_most t) l)
    (ltb (abs (delta0 (pos l.p1) (pos l.p0) (pos l.q0) (pos l.q1))) (t * 10))
    (weak_by_moves t p q _ w) (same _ l)

-- the weak filter moves no sample farther than the strong one may
weak_less : (tc i : ℕ) → weak_most tc i ≤ 2 * tc
weak_less tc zero = omega arith
weak_less tc (suc zero) = omega arith
weak_less tc (suc (suc i)) = omega arith

-- a bound that is no smaller
pub weaker : {most more : ℕ → ℕ} → ((i : ℕ) → most i ≤ more i) → {l m : Line} → MovedAtMost most l m
    → MovedAtMost more l m
weaker less h = record {
  p_most = λ i. omega (arith, h.p_most i, less i);
  q_most = λ i. omega (arith, h.q_most i, less i);
}

-- so whatever the decision 2 * tC is the most
pub any_moves : {largest : ℕ} {l : Line} (d : Decision) (tc : ℕ) → Within largest l
    → MovedAtMost (strong_most tc) l (luma_line d largest tc l)
unfolding luma_line
any_moves {largest} {l} d tc w =
    let moved : Line → Type 0 = MovedAtMost (strong_most tc) l in
    of_chosen moved (eqb d.d_e 2) (strong_moves tc l)
    (of_chosen moved (eqb d.d_e 1) (weaker (weak_less tc) (weak_moves tc d.d_ep d.d_eq w)) (same _ l))

-- ---- one chroma line

pub record ChromaMoved (largest tc : ℕ) (before after : ChromaLine) : Type 0 where
  pub p0_most : distance before.p0 after.p0 ≤ tc
  pub q0_most : distance before.q0 after.q0 ≤ tc
  pub p0≤ : after.p0 ≤ largest
  pub q0≤ : after.q0 ≤ largest

pub chroma_moves : {largest : ℕ} {l : ChromaLine} (tc : ℕ) → l.p0 ≤ largest → l.q0 ≤ largest
    → ChromaMoved largest tc l (chroma_line largest tc l)
unfolding chroma_line
chroma_moves tc p q = record {
  p0_most = up_moves tc p _;
  q0_most = down_moves tc q _;
  p0≤ = clip1_within _ _;
  q0≤ = clip1_within _ _;
}
