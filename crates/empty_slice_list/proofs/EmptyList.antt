-- The empty slice list stands for the record 0, 6, 5, 1; and the last byte of that record cannot show.
use Prim.Native.Nat.{ℕ}
use mathlib.Core.Path.{◌≡◌, refl}
use mathlib.Core.List.{List, [], ◌∷◌}
use Rattle.filter.specs.Segment.{bs_of, slices_open, gate, luma_filter, chroma_filter, filter_of, between}
use Rattle.picture.specs.Causes.{verdict}
use Rattle.picture.specs.declared.Cell.{Cell}
use Rattle.picture.specs.Picture.{Settings}
use Rattle.picture.specs.Scale.{Component, Y, Cb, Cr}
use Rattle.picture.specs.Slice.{slice_at}
use Rattle.empty_slice_list.specs.EmptyList.{StandsFor, listed, EmptyList}
use Rattle.empty_slice_list.proofs.Stands.{SameVerdict, SameBetween, stands}

-- both lists count one slice, and the record is in range
verdict_same : SameVerdict listed
unfolding verdict
verdict_same p lent = refl

-- slice 0 is the same in both
slice_same : (n : ℕ) → n ≡ 0 → slice_at [] n ≡ slice_at listed n
unfolding slice_at
slice_same n e = rw e

between_same : SameBetween listed
unfolding between
between_same t c d a b tile ea eb = rw (slice_same b.slice eb)

pub empty_list : EmptyList
empty_list = stands listed verdict_same between_same

-- ---- filter across: P and Q have one slice number, so it is not looked at

abbrev not_across : List ℕ
not_across = 0 ∷ 6 ∷ 5 ∷ 0 ∷ []

across_verdict : SameVerdict not_across
unfolding verdict
across_verdict p lent = refl

across_open : (a b : Cell) → a.slice ≡ 0 → b.slice ≡ 0
    → slices_open a b (slice_at [] b.slice) ≡ slices_open a b (slice_at not_across b.slice)
unfolding slices_open slice_at
across_open a b ea eb = rw (ea, eb)

across_filter : (t : Settings) (c : Component) (a b : Cell) (bS : ℕ) → b.slice ≡ 0
    → filter_of t c a b (slice_at [] b.slice) bS ≡ filter_of t c a b (slice_at not_across b.slice) bS
unfolding luma_filter chroma_filter slice_at
across_filter t Y a b bS e = rw e
across_filter t Cb a b bS e = rw e
across_filter t Cr a b bS e = rw e

across_between : SameBetween not_across
unfolding between gate
across_between t c d a b tile ea eb = rw (across_open a b ea eb, across_filter t c a b (bs_of d b) eb)

-- so a list that parts from the record there alone is as good
pub across_unseen : StandsFor not_across
across_unseen = stands not_across across_verdict across_between
