-- Line by line: the filtered line of the definitions, of what the code's calls gave.
use Prim.Native.Nat.{ℕ, ◌+◌, ◌*◌, ◌-◌, ◌/◌, ◌≤◌, ◌<◌}
use mathlib.Core.Path.{◌≡◌, sym, ◌∙◌, ap}
use mathlib.Core.Bool.{Bool}
use native.Mathlib.Omega.{arith}
use lib.IntN.{ℤ, pos}
use borrow.Author.Tests.{lt-ltb, le-ltb}
use Rattle.ints.specs.Int.{neg, clip3, abs}
use Rattle.ints.specs.Sample.{distance}
use Rattle.ints.proofs.Laws.{naturals, shr-pos, abs_diff}
use Rattle.lines.specs.declared.Line.{Line}
use Rattle.lines.specs.declared.ChromaLine.{ChromaLine}
use Rattle.lines.specs.Chroma.{chroma_line}
use Rattle.lines.specs.Code.{biased, near_n, weak_delta_n, clip_delta_n, moved_n, second_n}
use Rattle.lines.specs.Luma.{strong_line, delta0, weak_by, weak_line}
use Rattle.lines.proofs.Numbers.{near_is, delta_is, chroma_delta_is, clip_delta_is, neg_is}
use Rattle.lines.proofs.Numbers.{moved_is, moved_back_is, second_is}

abbrev line : ℕ → ℕ → ℕ → ℕ → ℕ → ℕ → ℕ → ℕ → Line
line a b c d e f g h = record { p3 = a; p2 = b; p1 = c; p0 = d; q0 = e; q1 = f; q2 = g; q3 = h }

-- ---- the strong filter

-- the code adds the third sample of Q from q3 on, as that of P from p3 on; the definition from p0 on
turned : (l : Line)
    → (2 * l.q3 + 3 * l.q2 + l.q1 + l.q0 + l.p0 + 4) / 8 ≡ (l.p0 + l.q0 + l.q1 + 3 * l.q2 + 2 * l.q3 + 4) / 8
turned l = ap (λ (s : ℕ). s / 8) (omega arith)

pub strong_made : (t : ℕ) (l : Line) (a2 a1 a0 b0 b1 b2 : ℕ)
    → a2 ≡ near_n t l.p2 ((2 * l.p3 + 3 * l.p2 + l.p1 + l.p0 + l.q0 + 4) / 8)
    → a1 ≡ near_n t l.p1 ((l.p2 + l.p1 + l.p0 + l.q0 + 2) / 4)
    → a0 ≡ near_n t l.p0 ((l.p2 + 2 * l.p1 + 2 * l.p0 + 2 * l.q0 + l.q1 + 4) / 8)
    → b0 ≡ near_n t l.q0 ((l.p1 + 2 * l.p0 + 2 * l.q0 + 2 * l.q1 + l.q2 + 4) / 8)
    → b1 ≡ near_n t l.q1 ((l.p0 + l.q0 + l.q1 + l.q2 + 2) / 4)
    → b2 ≡ near_n t l.q2 ((2 * l.q3 + 3 * l.q2 + l.q1 + l.q0 + l.p0 + 4) / 8)
    → line l.p3 a2 a1 a0 b0 b1 b2 l.q3 ≡ strong_line t l
unfolding strong_line
strong_made t l a2 a1 a0 b0 b1 b2 e2 e1 e0 f0 f1 f2 =
    let last = f2 ∙ ap (near_n t l.q2) (turned l) in
    simp (naturals, near_is) (λ i. line l.p3 (e2 i) (e1 i) (e0 i) (f0 i) (f1 i) (last i) l.q3)

-- ---- bounds, each with only its own hypotheses in reach: `omega` splits on every `-`, `min` and `max` that has to do
-- with the goal, six times at most

clip_delta_small : {t : ℕ} (d : ℕ) → t < 65536 → clip_delta_n t d ≤ 131072
clip_delta_small d h = omega arith

half_small : {t : ℕ} → t < 65536 → t / 2 < 65536
half_small h = omega arith

below : {x : ℕ} (d : ℕ) → x < 65536 → x ≤ d + 65536
below d h = omega arith

narrow : {p q : ℕ} → p < 65536 → q < 65536 → 4 * p + q ≤ 524288
narrow h k = omega arith

-- ---- the weak filter

-- the samples and tc are 16 bits wide
pub record Wide (t : ℕ) (l : Line) : Type 0 where
  pub t_wide : t < 65536
  pub p2_wide : l.p2 < 65536
  pub p1_wide : l.p1 < 65536
  pub p0_wide : l.p0 < 65536
  pub q0_wide : l.q0 < 65536
  pub q1_wide : l.q1 < 65536
  pub q2_wide : l.q2 < 65536

-- Δ of a line, before it is clipped
abbrev delta_of : Line → ℤ
delta_of l = delta0 (pos l.p1) (pos l.p0) (pos l.q0) (pos l.q1)

module _ (largest t : ℕ) (p q : Bool) (l : Line) (w : Wide t l)
    (d0 : ℕ) (rough : d0 ≡ weak_delta_n l.p1 l.p0 l.q0 l.q1) where
  rough_z : delta_of l ≡ biased d0
  rough_z = delta_is _ _ _ _ (omega arith) ∙ ap biased (sym rough)

  size_z : abs (delta_of l) ≡ distance d0 65536
  size_z = ap abs rough_z ∙ abs_diff d0 65536

  pub weak_kept : (s : ℕ) → s ≡ distance d0 65536 → t * 10 ≤ s → l ≡ weak_line largest t p q l
  unfolding weak_line
  weak_kept s e h = simp (size_z, le-ltb (distance d0 65536) (t * 10) (omega arith))

  module _ (d : ℕ) (hd : d ≡ clip_delta_n t d0) where
    delta_z : clip3 (neg (pos t)) (pos t) (delta_of l) ≡ biased d
    delta_z = ap (clip3 (neg (pos t)) (pos t)) rough_z ∙ clip_delta_is d0 w.t_wide ∙ ap biased (sym hd)

    small : d ≤ 131072
    small = rw hd (clip_delta_small d0 w.t_wide)

    pub weak_made : (s a1 a0 b0 b1 : ℕ) → s ≡ distance d0 65536 → s < t * 10
        → a1 ≡ second_n p largest (t / 2) l.p2 l.p1 l.p0 d
        → a0 ≡ moved_n largest l.p0 d
        → b0 ≡ moved_n largest l.q0 (131072 - d)
        → b1 ≡ second_n q largest (t / 2) l.q2 l.q1 l.q0 (131072 - d)
        → line l.p3 l.p2 a1 a0 b0 b1 l.q2 l.q3 ≡ weak_line largest t p q l
    unfolding weak_line weak_by
    weak_made s a1 a0 b0 b1 e h e1 e0 f0 f1 =
        let half = half_small w.t_wide in
        simp (
          shr-pos,
          size_z,
          lt-ltb (distance d0 65536) (t * 10) (rw e at h),
          delta_z,
          neg_is small,
          moved_is,
          moved_back_is largest l.q0 d small,
          second_is p largest (t / 2) l.p2 l.p1 l.p0 d half (below d w.p1_wide),
          second_is q largest (t / 2) l.q2 l.q1 l.q0 (131072 - d) half (below (131072 - d) w.q1_wide),
        )
        (λ i. line l.p3 l.p2 (e1 i) (e0 i) (f0 i) (f1 i) l.q2 l.q3)

-- ---- the chroma filter

pub chroma_made : (largest t : ℕ) (l : ChromaLine) (d a0 b0 : ℕ) → t < 65536 → l.p0 < 65536 → l.q1 < 65536
    → d ≡ clip_delta_n t ((4 * l.q0 + l.p1 + 524292 - (4 * l.p0 + l.q1)) / 8)
    → a0 ≡ moved_n largest l.p0 d
    → b0 ≡ moved_n largest l.q0 (131072 - d)
    → record { p1 = l.p1; p0 = a0; q0 = b0; q1 = l.q1 } ≡ chroma_line largest t l
unfolding chroma_line
chroma_made largest t l d a0 b0 ht hp hq hd e0 f0 =
    let rough = chroma_delta_is l.p1 l.p0 l.q0 l.q1 (narrow hp hq) in
    let delta = ap (clip3 (neg (pos t)) (pos t)) rough ∙ clip_delta_is _ ht ∙ ap biased (sym hd) in
    let small : d ≤ 131072 = rw hd (clip_delta_small _ ht) in
    simp (delta, moved_is, moved_back_is)
    (λ i. record { p1 = l.p1; p0 = e0 i; q0 = f0 i; q1 = l.q1 })
