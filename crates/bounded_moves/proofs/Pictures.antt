-- How far a picture's samples end from their originals: two passes, each followed by restoration, which moves a sample
-- back to its original or not at all.
use Prim.Native.Nat.{ℕ, ◌+◌, ◌*◌, ◌-◌, ◌/◌, ◌^◌, ◌≤◌, ◌<◌}
use mathlib.Core.Path.{◌≡◌, refl}
use mathlib.Core.Bool.{Bool, ◌&&◌}
use mathlib.Core.List.{List}
use mathlib.Core.Logic.{◌⊎◌, inl, inr}
use mathlib.Core.Option.{some}
use native.Mathlib.Omega.{arith}
use lib.Dec.{ltb}
use lib.ListN.{length, get_or, get_or-eq_default}
use Rattle.filter.specs.Finished.{pass_of, restored, finished_plane}
use Rattle.filter.specs.Kernel.{Filter, tc_of}
use Rattle.filter.specs.Segment.{
  Direction,
  vertical,
  horizontal,
  bs_of,
  gate,
  luma_filter,
  chroma_filter,
  filter_of,
  between,
  segment_at,
  segment,
}
use Rattle.filter.proofs.Outputs.{outputs_finished, finished_at}
use Rattle.ints.proofs.Laws.{either}
use Rattle.lines.proofs.Within.{of_chosen}
use Rattle.picture.specs.Accepted.{PictureOk}
use Rattle.picture.specs.Cell.{suppressed, cell_beneath}
use Rattle.picture.specs.declared.Cell.{Cell}
use Rattle.picture.specs.declared.Slice.{Slice}
use Rattle.picture.specs.Picture.{Picture, Planes, Settings, plane_of, plane_width, plane_height, original}
use Rattle.picture.specs.Picture.{depth_of, largest}
use Rattle.picture.specs.Plane.{Plane, at, transposed}
use Rattle.picture.specs.Scale.{Component, Y, Cb, Cr}
use Rattle.picture.specs.Slice.{slice_at}
use Rattle.picture.proofs.Accepted.{accepted_by}
use Rattle.thresholds.proofs.Most.{luma_tc_most, chroma_tc_most}
use Rattle.bounded_moves.specs.Pictures.{output, bound_at8, bound, AcceptedSample, HowFar, StrokeStays}
use Rattle.bounded_moves.specs.Segments.{InRange}
use Rattle.bounded_moves.proofs.Passes.{Close, unmoved, Bounded, pass_close}

-- ---- the segments of a picture

-- the most that one pass moves a sample: half of the picture's bound
abbrev pass_most : Settings → Component → ℕ
pass_most t c = bound_at8 c / 2 * 2 ^ (depth_of t c - 8)

doubled : (tc n : ℕ) → tc ≤ 24 * n → 2 * tc ≤ 48 * n
doubled tc n h = omega arith

filter_bounded : (t : Settings) (c : Component) (p q : Cell) (slice_q : Slice) (bS : ℕ)
    → Bounded (pass_most t c) (largest t c) (some (filter_of t c p q slice_q bS))
unfolding luma_filter chroma_filter
filter_bounded t Y p q slice_q bS = (doubled _ _ (luma_tc_most t.luma_depth _ _ _), refl)
filter_bounded t Cb p q slice_q bS = (chroma_tc_most t.format t.chroma_depth _ _ _, refl)
filter_bounded t Cr p q slice_q bS = (chroma_tc_most t.format t.chroma_depth _ _ _, refl)

between_bounded : (t : Settings) (slices : List ℕ) (c : Component) (d : Direction) (p q : Cell) (one_tile : Bool)
    → Bounded (pass_most t c) (largest t c) (between t slices c d p q one_tile)
unfolding between
between_bounded t slices c d p q one_tile =
    let slice_q : Slice = slice_at slices q.slice in
    let filter : Filter = filter_of t c p q slice_q (bs_of d q) in
    of_chosen (Bounded (pass_most t c) (largest t c)) (gate c d p q slice_q one_tile && ltb 0 (tc_of filter))
    (filter_bounded t c p q slice_q (bs_of d q)) tt

segment_bounded : (p : Picture) (c : Component) (d : Direction) (e l : ℕ)
    → Bounded (pass_most p.settings c) (largest p.settings c) (segment p c d e l)
unfolding segment_at
segment_bounded p c d e l = between_bounded p.settings p.slices c d _ _ _

-- ---- the steps of a plane

module _ (p : Picture) (c : Component) (ok : InRange (largest p.settings c) (original p c)) where
  abbrev most : ℕ
  most = pass_most p.settings c

  abbrev top : ℕ
  top = largest p.settings c

  -- every sample of a plane is close to its original
  abbrev AllClose : ℕ → Plane → Type 0
  AllClose n P = (x y : ℕ) → Close n top (original p c x y) (P x y)

  -- one pass, of either direction
  pass_moves : (d : Direction) (P : Plane) → InRange top P → (x y : ℕ) → Close most top (P x y) (pass_of p c d P x y)
  unfolding pass_of
  pass_moves vertical P within x y =
      pass_close most top (plane_width p c) (segment p c vertical) (segment_bounded p c vertical) P within x y
  pass_moves horizontal P within x y =
      pass_close most top (plane_height p c) (segment p c horizontal) (segment_bounded p c horizontal) (transposed P)
      (λ x y. within y x) y x

  -- restoration puts the original back, or leaves what is there
  restored_close : (n : ℕ) (P : Plane) → AllClose n P → AllClose n (restored p c P)
  unfolding restored
  restored_close n P close x y =
      of_chosen (Close n top (original p c x y))
      (suppressed p.settings.pcm_loop_filter_disabled (cell_beneath p c x y)) (unmoved (ok x y)) (close x y)

  -- a pass more
  further : (n : ℕ) (d : Direction) (P : Plane) → AllClose n P → AllClose (n + most) (restored p c (pass_of p c d P))
  further n d P close = restored_close (n + most) (pass_of p c d P) λ x y.
      let moved = pass_moves d P (λ x y. (close x y).range_is) x y in
      record { most_is = omega (arith, (close x y).most_is, moved.most_is); range_is = moved.range_is }

  finished_close : AllClose (0 + most + most) (finished_plane p c)
  unfolding finished_plane
  finished_close = further (0 + most) horizontal _ (further 0 vertical (original p c) λ x y. unmoved (ok x y))

-- ---- what the stage leaves

-- an original sample of a picture that passes its checks is in range, and what lies outside its plane reads as 0
original_within : (p : Picture) → PictureOk p → (c : Component) → InRange (largest p.settings c) (original p c)
unfolding at
original_within p ok c x y = go (either k (length list))
  where
    list : List ℕ
    list = plane_of p.originals c

    k : ℕ
    k = y * plane_width p c + x

    go : (k < length list) ⊎ (length list ≤ k) → get_or list k 0 ≤ largest p.settings c
    go (inl h) = ok.samples c k h
    go (inr h) = omega (arith, get_or-eq_default list 0 {n = k} h)

twice : (t : Settings) (c : Component) → 0 + pass_most t c + pass_most t c ≡ bound t c
twice t Y = omega arith
twice t Cb = omega arith
twice t Cr = omega arith

left_close : (p : Picture) (lent : Planes) (c : Component) (x y : ℕ) → AcceptedSample p lent c x y
    → Close (bound p.settings c) (largest p.settings c) (original p c x y) (output p lent c x y)
left_close p lent c x y s =
    let close = finished_close p c (original_within p (accepted_by p lent s.accepted).picture c) x y in
    let there = finished_at p c x y s.column s.row in
    rw (outputs_finished p lent s.accepted, there, ← twice p.settings c) close

pub how_far : HowFar
how_far = record {
  within_bound = λ p lent c x y s. (left_close p lent c x y s).most_is;
  in_range = λ p lent c x y s. (left_close p lent c x y s).range_is;
}

pub stroke_stays : StrokeStays
stroke_stays p lent c x y x' y' s s' less =
    omega (arith, how_far.within_bound p lent c x y s, how_far.within_bound p lent c x' y' s')
