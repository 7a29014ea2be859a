-- The definition's `between` by what the code is given: a component as a struct, and the cells of a segment with
-- whether they lie in one tile. And what each answer of the code says.
use Rattle.std.specs.Prelude as Code
use Rattle.std.specs.Prelude.{ℕ, Bool, cond, ◌&&◌, List, leb, ltb, Some, None}
use Rattle.std.proofs.Math.Option.{Option, none, some}
use Rattle.ints.specs.Int.{◌⊖◌}
use Rattle.filter.specs.declared.Component.{Component}
use Rattle.filter.specs.Kernel.{Filter, luma, chroma, tc_of}
use Rattle.filter.specs.Segment.{slices_open, luma_filter, chroma_filter}
use Rattle.picture.specs.declared.Cell.{Cell}
use Rattle.picture.specs.declared.Slice.{Slice}
use Rattle.picture.specs.Slice.{slice_at}
use Rattle.segments.specs.declared.SegmentFilter.{SegmentFilter}
use Rattle.segments.specs.declared.SegmentFilter.TheVariants.{Luma, Chroma}
use Rattle.segments.specs.declared.Sides.{Sides}

abbrev pub filter_for : Component → Cell → Cell → Slice → ℕ → Filter
filter_for k p q slice_q bS =
    cond k.luma (luma_filter k.depth p q slice_q bS)
    (chroma_filter k.format k.depth (k.offset ⊖ 12) p q slice_q)

abbrev pub least_for : Component → ℕ
least_for k = cond k.luma 1 2

-- the filter of an open segment, or none where its tC is 0
unfoldable pub positive : Filter → Option Filter
positive f = cond (ltb 0 (tc_of f)) (some f) none

-- a segment whose edge flag is set
unfoldable pub between_for : Component → List ℕ → Sides → ℕ → Option Filter
between_for k slices s bS =
    let slice_q : Slice = slice_at slices s.q.slice in
    cond (leb (least_for k) bS && (s.same && slices_open s.p s.q slice_q))
    (positive (filter_for k s.p s.q slice_q bS)) none

-- what is answered of a segment of a component with this largest sample
abbrev pub option_of : ℕ → Code.Option SegmentFilter → Option Filter
option_of largest None = none
option_of largest (Some (Luma β tc)) = some (luma β tc largest)
option_of largest (Some (Chroma tc)) = some (chroma tc largest)
