-- How far the samples of a segment's window move, and that none leaves its range.
use Prim.Native.Nat.{ℕ, zero, suc, ◌*◌, ◌≤◌, ◌<◌}
use mathlib.Core.Path.{◌≡◌, refl}
use mathlib.Core.List.{List}
use mathlib.Core.Logic.{⊎_elim}
use native.Mathlib.Omega.{arith}
use lib.ListN.{length, get_or, get_or-eq_default}
use Rattle.filter.specs.Kernel.{Filter, luma, chroma, line_of, chroma_line_of, samples_of, chroma_samples_of, kernel}
use Rattle.filter.proofs.Counted.{kernel_beyond}
use Rattle.ints.specs.Sample.{distance}
use Rattle.ints.proofs.Laws.{either}
use Rattle.lines.specs.declared.Line.{Line}
use Rattle.lines.specs.Chroma.{chroma_line}
use Rattle.lines.specs.Counted.{from_edge, SameBeyond}
use Rattle.lines.specs.Luma.{luma_line}
use Rattle.lines.proofs.Within.{Within, luma_within}
use Rattle.picture.specs.Plane.{Plane}
use Rattle.picture.proofs.Index.{cases8}
use Rattle.bounded_moves.specs.Segments.{InRange, decided, strong_most, weak_most, chroma_most}
use Rattle.bounded_moves.specs.Segments.{MovedAtMost, SegmentBounds}
use Rattle.bounded_moves.proofs.Lines.{side, stays, weaker, strong_moves, weak_moves, any_moves}
use Rattle.bounded_moves.proofs.Lines.{ChromaMoved, chroma_moves}

-- of eight samples none is above the largest, and past them there is 0
column_range : {largest : ℕ} (l : List ℕ) → length l ≡ 8 → get_or l 0 0 ≤ largest → get_or l 1 0 ≤ largest
    → get_or l 2 0 ≤ largest → get_or l 3 0 ≤ largest → get_or l 4 0 ≤ largest → get_or l 5 0 ≤ largest
    → get_or l 6 0 ≤ largest → get_or l 7 0 ≤ largest → (i : ℕ) → get_or l i 0 ≤ largest
column_range l e h0 h1 h2 h3 h4 h5 h6 h7 i = ⊎_elim
    (cases8 (λ i. get_or l i 0 ≤ _) h0 h1 h2 h3 h4 h5 h6 h7 i)
    (λ (past : 8 ≤ i). omega (arith, get_or-eq_default l 0 {n = i} (omega (arith, e))))
    (either i 8)

-- ---- luma

module _ (β tc largest : ℕ) (W : Plane) where
  abbrev after : Plane
  after = kernel (luma β tc largest) W

  -- the window's line j is in range
  within_line : InRange largest W → (j : ℕ) → Within largest (line_of W j)
  within_line ok j = record {
    p3≤ = ok 0 j;
    p2≤ = ok 1 j;
    p1≤ = ok 2 j;
    p0≤ = ok 3 j;
    q0≤ = ok 4 j;
    q1≤ = ok 5 j;
    q2≤ = ok 6 j;
    q3≤ = ok 7 j;
  }

  strong : (decided β tc W).d_e ≡ 2 → (j : ℕ) → MovedAtMost (strong_most tc) (line_of W j) (line_of after j)
  unfolding kernel luma_line
  strong e j = rw e (strong_moves tc (line_of W j))

  weak : (decided β tc W).d_e ≡ 1 → InRange largest W → (j : ℕ)
      → MovedAtMost (weak_most tc) (line_of W j) (line_of after j)
  unfolding kernel luma_line
  weak e ok j = rw e (weak_moves tc (decided β tc W).d_ep (decided β tc W).d_eq (within_line ok j))

  any : InRange largest W → (j : ℕ) → MovedAtMost (strong_most tc) (line_of W j) (line_of after j)
  unfolding kernel
  any ok j = any_moves (decided β tc W) tc (within_line ok j)

  luma_range : InRange largest W → InRange largest after
  unfolding kernel
  luma_range ok i j =
      let l : Line = luma_line (decided β tc W) largest tc (line_of W j) in
      let w : Within largest l = luma_within (decided β tc W) tc (within_line ok j) in
      column_range (samples_of l) refl w.p3≤ w.p2≤ w.p1≤ w.p0≤ w.q0≤ w.q1≤ w.q2≤ w.q3≤ i

-- ---- chroma

-- from the second sample of a side on
from_second : (a b x1 x2 x3 i : ℕ) → 1 ≤ i → from_edge a x1 x2 x3 i ≡ from_edge b x1 x2 x3 i
from_second a b x1 x2 x3 zero h = absurd (omega arith)
from_second a b x1 x2 x3 (suc i) h = refl

module _ (tc largest : ℕ) (W : Plane) where
  abbrev after_chroma : Plane
  after_chroma = kernel (chroma tc largest) W

  pair : InRange largest W → (j : ℕ)
      → ChromaMoved largest tc (chroma_line_of W j) (chroma_line largest tc (chroma_line_of W j))
  pair ok j = chroma_moves tc (ok 3 j) (ok 4 j)

  chroma_at_most : InRange largest W → (j : ℕ) → MovedAtMost (chroma_most tc) (line_of W j) (line_of after_chroma j)
  unfolding kernel chroma_line
  chroma_at_most ok j = record {
    p_most = side (chroma_most tc) _ _ _ _ _ _ _ _ (pair ok j).p0_most (stays _ _) (stays _ _) (stays _ _);
    q_most = side (chroma_most tc) _ _ _ _ _ _ _ _ (pair ok j).q0_most (stays _ _) (stays _ _) (stays _ _);
  }

  two_alone : (j : ℕ) → SameBeyond (record { p = 1; q = 1 }) (line_of W j) (line_of after_chroma j)
  unfolding kernel chroma_line
  two_alone j = record { p_same = from_second _ _ _ _ _; q_same = from_second _ _ _ _ _ }

  chroma_range : InRange largest W → InRange largest after_chroma
  unfolding kernel chroma_line
  chroma_range ok i j =
      let p : ChromaMoved largest tc (chroma_line_of W j) (chroma_line largest tc (chroma_line_of W j)) = pair ok j in
      column_range (chroma_samples_of W j (chroma_line largest tc (chroma_line_of W j))) refl (ok 0 j) (ok 1 j) (ok 2 j)
      p.p0≤ p.q0≤ (ok 5 j) (ok 6 j) (ok 7 j) i

pub segment_bounds : SegmentBounds
segment_bounds = record {
  strong = strong;
  weak = weak;
  chroma_at_most = chroma_at_most;
  counted = kernel_beyond;
  two_alone = two_alone;
  luma_range = luma_range;
  chroma_range = chroma_range;
}

-- ---- a window by any filter

chroma_less : (tc i : ℕ) → chroma_most tc i ≤ tc
chroma_less tc zero = omega arith
chroma_less tc (suc i) = omega arith

-- the most that a filter moves a sample, and the largest sample
abbrev pub most_of : Filter → ℕ
most_of (luma β tc largest) = 2 * tc
most_of (chroma tc largest) = tc

abbrev pub largest_of : Filter → ℕ
largest_of (luma β tc largest) = largest
largest_of (chroma tc largest) = largest

-- sample i of line j, from what is known of the line
in_line : (most : ℕ) (W after : Plane) (j : ℕ) → MovedAtMost (λ _. most) (line_of W j) (line_of after j)
    → (i : ℕ) → i < 8 → distance (W i j) (after i j) ≤ most
in_line most W _ j m =
    cases8 _ (m.p_most 3) (m.p_most 2) (m.p_most 1) (m.p_most 0)
    (m.q_most 0) (m.q_most 1) (m.q_most 2) (m.q_most 3)

pub window_most : (f : Filter) (W : Plane) → InRange (largest_of f) W → (i j : ℕ) → i < 8
    → distance (W i j) (kernel f W i j) ≤ most_of f
window_most (luma β tc largest) W ok i j =
    in_line (2 * tc) W (kernel (luma β tc largest) W) j (any β tc largest W ok j) i
window_most (chroma tc largest) W ok i j =
    in_line tc W (kernel (chroma tc largest) W) j (weaker (chroma_less tc) (chroma_at_most tc largest W ok j)) i

pub window_range : (f : Filter) (W : Plane) → InRange (largest_of f) W → InRange (largest_of f) (kernel f W)
window_range (luma β tc largest) W ok = luma_range β tc largest W ok
window_range (chroma tc largest) W ok = chroma_range tc largest W ok
