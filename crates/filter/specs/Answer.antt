-- What the code answers, in the definition's terms.
use Rattle.std.specs.Prelude.{ℕ, ◌+◌, ◌≤◌, ◌≡◌, cond, List, Option, Some, None}
use Rattle.ints.specs.Sample.{largest_at}
use Rattle.filter.specs.declared.ChromaFilter.{ChromaFilter}
use Rattle.filter.specs.declared.Component.{Component}
use Rattle.filter.specs.declared.LumaFilter.{LumaFilter}
use Rattle.filter.specs.Kernel.{Filter, luma, chroma}
use Rattle.filter.specs.Segment.{slices_open}
use Rattle.picture.specs.declared.Cell.{Cell}
use Rattle.picture.specs.declared.Slice.{Slice}
use Rattle.picture.specs.Slice.{slice_at}

-- Q's slice record, where the slices of P and Q let the segment be filtered
unfoldable pub slice_gate : List ℕ → Cell → Cell → Option Slice
slice_gate slices p q =
    cond (slices_open p q (slice_at slices q.slice)) (Some (slice_at slices q.slice)) None

-- the filter of an open luma segment, and of an open chroma one
abbrev pub luma_of : LumaFilter → Filter
luma_of f = luma f.beta f.tc f.largest

abbrev pub chroma_of : ChromaFilter → Filter
chroma_of f = chroma f.tc f.largest

-- a component whose depth was checked, and its largest sample
pub record Sound (k : Component) : Type 0 where
  pub depth_low : 8 ≤ k.depth
  pub depth_high : k.depth ≤ 16
  pub largest_is : k.largest ≡ largest_at k.depth

-- what a segment of a picture that was checked has; a QP's byte is 64 more. Where its bS is not 0 and its average QP
-- not negative, the table of the luma tc has an entry for it.
pub record SegmentInRange (p q : Cell) (slice_q : Slice) (bS : ℕ) : Type 0 where
  pub qp_p : p.qp ≤ 64 + 51
  pub qp_q : q.qp ≤ 64 + 51
  pub bs_most : bS ≤ 2
  pub tc_most : slice_q.tc ≤ 12
