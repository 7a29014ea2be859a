-- Document 02, C-23, of one segment: "Prove that a strong segment moves a sample by at most 2·tc, a weak one by at most
-- tc next to the edge and tc >> 1 one further, chroma by at most tc, and that only the counted luma samples move, and
-- of a chroma line only the two at the edge." At a general depth and tC: `kernel` filters a segment's window W, whose
-- line j is `line_of W j`, p3 to q3, in chroma too; `largest` is the largest sample.
use Rattle.std.specs.Prelude.{ℕ, zero, suc, ◌*◌, ◌/◌, ◌^◌, ◌≤◌, ◌≡◌}
use Rattle.filter.specs.Kernel.{luma, chroma, line_of, kernel}
use Rattle.ints.specs.Sample.{distance}
use Rattle.lines.specs.declared.Line.{Line}
use Rattle.lines.specs.Counted.{p_from_edge, q_from_edge, SameBeyond}
use Rattle.lines.specs.Decision.{Decision, decision, counts_of}
use Rattle.picture.specs.Plane.{Plane}

-- no sample is above the largest
abbrev pub InRange : ℕ → Plane → Type 0
InRange largest W = (i j : ℕ) → W i j ≤ largest

-- what is decided on a luma segment, by its lines 0 and 3
abbrev pub decided : ℕ → ℕ → Plane → Decision
decided β tc W = decision β tc (line_of W 0) (line_of W 3)

-- the most that sample i of a side moves, counted from the edge: 0 is next to it
abbrev pub strong_most : ℕ → ℕ → ℕ
strong_most tc i = 2 * tc

abbrev pub weak_most : ℕ → ℕ → ℕ
weak_most tc zero = tc
weak_most tc (suc zero) = tc / 2 ^ 1
weak_most tc (suc (suc i)) = 0

abbrev pub chroma_most : ℕ → ℕ → ℕ
chroma_most tc zero = tc
chroma_most tc (suc i) = 0

-- of two lines, sample i of either side is at most `most i` apart
pub record MovedAtMost (most : ℕ → ℕ) (before after : Line) : Type 0 where
  pub p_most : (i : ℕ) → distance (p_from_edge before i) (p_from_edge after i) ≤ most i
  pub q_most : (i : ℕ) → distance (q_from_edge before i) (q_from_edge after i) ≤ most i

-- Clip1 draws a sample out of range back, however far, so the weak and the chroma filter's bounds ask for samples in
-- range.
pub record SegmentBounds : Type 0 where
  -- "a strong segment moves a sample by at most 2·tc"
  pub strong : (β tc largest : ℕ) (W : Plane) → (decided β tc W).d_e ≡ 2 → (j : ℕ)
      → MovedAtMost (strong_most tc) (line_of W j) (line_of (kernel (luma β tc largest) W) j)
  -- "a weak one by at most tc next to the edge and tc >> 1 one further"
  pub weak : (β tc largest : ℕ) (W : Plane) → (decided β tc W).d_e ≡ 1 → InRange largest W → (j : ℕ)
      → MovedAtMost (weak_most tc) (line_of W j) (line_of (kernel (luma β tc largest) W) j)
  -- "chroma by at most tc"
  pub chroma_at_most : (tc largest : ℕ) (W : Plane) → InRange largest W → (j : ℕ)
      → MovedAtMost (chroma_most tc) (line_of W j) (line_of (kernel (chroma tc largest) W) j)
  -- "only the counted luma samples move"
  pub counted : (β tc largest : ℕ) (W : Plane) (j : ℕ)
      → SameBeyond (counts_of (decided β tc W)) (line_of W j) (line_of (kernel (luma β tc largest) W) j)
  -- "of a chroma line only the two at the edge"
  pub two_alone : (tc largest : ℕ) (W : Plane) (j : ℕ)
      → SameBeyond (record { p = 1; q = 1 }) (line_of W j) (line_of (kernel (chroma tc largest) W) j)
  -- "none leaves its range"
  pub luma_range : (β tc largest : ℕ) (W : Plane) → InRange largest W → InRange largest (kernel (luma β tc largest) W)
  pub chroma_range : (tc largest : ℕ) (W : Plane) → InRange largest W → InRange largest (kernel (chroma tc largest) W)
