-- Each bound of document 02's C-23 on a segment is met: by every tC that there is at a depth from 8 on, and any β that
-- lets flat lines be decided on as strong.
use Rattle.std.specs.Prelude.{ℕ, ◌*◌, ◌-◌, ◌%◌, ◌^◌, ◌≤◌, ◌<◌, ◌≡◌, cond, eqb, ltb}
use Rattle.bounded_moves.specs.Segments.{InRange, decided, strong_most, weak_most, chroma_most}
use Rattle.filter.specs.Kernel.{luma, chroma, line_of, kernel}
use Rattle.ints.specs.Sample.{largest_at, distance}
use Rattle.lines.specs.declared.Line.{Line}
use Rattle.lines.specs.Counted.{p_from_edge, q_from_edge}
use Rattle.picture.specs.Plane.{Plane}

-- of two lines, each of the first n samples of either side is exactly `most i` apart
pub record MovedExactly (n : ℕ) (most : ℕ → ℕ) (before after : Line) : Type 0 where
  pub p_met : (i : ℕ) → i < n → distance (p_from_edge before i) (p_from_edge after i) ≡ most i
  pub q_met : (i : ℕ) → i < n → distance (q_from_edge before i) (q_from_edge after i) ≡ most i

-- lines 0 and 3, which decide, are flat; lines 1 and 2 are 8 * tC and 0 in turn
abbrev pub wild : ℕ → Plane
wild tc i j = cond (eqb (j % 3) 0) 0 (cond (eqb (i % 2) 0) (8 * tc) 0)

-- every line steps from 0 to 4 * tC at the edge
abbrev pub stepped : ℕ → Plane
stepped tc i j = cond (ltb i 4) 0 (4 * tc)

pub record SegmentsMet (β tc largest : ℕ) : Type 0 where
  pub wild_in_range : InRange largest (wild tc)
  pub stepped_in_range : InRange largest (stepped tc)
  -- all three samples of either side, by the strong filter
  pub strong_decided : (decided β tc (wild tc)).d_e ≡ 2
  pub strong_met :
      MovedExactly 3 (strong_most tc) (line_of (wild tc) 1) (line_of (kernel (luma β tc largest) (wild tc)) 1)
  -- both, by the weak one, on every line
  pub weak_decided : (decided β tc (stepped tc)).d_e ≡ 1
  pub weak_met : (j : ℕ)
      → MovedExactly 2 (weak_most tc) (line_of (stepped tc) j) (line_of (kernel (luma β tc largest) (stepped tc)) j)
  -- the one next to the edge, in chroma
  pub chroma_met : (j : ℕ)
      → MovedExactly 1 (chroma_most tc) (line_of (stepped tc) j) (line_of (kernel (chroma tc largest) (stepped tc)) j)

abbrev pub AllSegmentsMet : Type 0
AllSegmentsMet = (depth β tc : ℕ) → 8 ≤ depth → 8 ≤ β → 1 ≤ tc → tc ≤ 24 * 2 ^ (depth - 8)
    → SegmentsMet β tc (largest_at depth)
