-- The filter is local: the finished samples of a cut are those of the picture, at the place of the tile.
use Prim.Native.Nat.{ℕ, ◌+◌, ◌-◌, ◌%◌, ◌≤◌, ◌<◌}
use mathlib.Core.Path.{◌≡◌, ap, ◌∙◌}
use mathlib.Core.Bool.{cond}
use mathlib.Core.List.{List}
use mathlib.Core.Option.{Option, none}
use native.Mathlib.Omega.{arith}
use Rattle.filter.specs.Finished.{pass_of, restored, finished_plane}
use Rattle.filter.specs.Kernel.{Filter, kernel}
use Rattle.filter.specs.Pass.{pass}
use Rattle.filter.specs.Segment.{vertical, horizontal, Position, segment_at}
use Rattle.picture.specs.Accepted.{PictureOk}
use Rattle.picture.specs.Cell.{suppressed, cell_of_sample}
use Rattle.picture.specs.Cut.{IsTile, tile_part, cut}
use Rattle.picture.specs.Picture.{Picture, plane_of, plane_width, plane_height, original}
use Rattle.picture.specs.Plane.{Plane, Part, at, transposed}
use Rattle.picture.specs.Scale.{Component, Sampling, sampling_across, sampling_down, from_luma, to_luma}
use Rattle.picture.specs.Tile.{tile_left, tile_top, tile_width, tile_height}
use Rattle.tiles_apart.proofs.Cells.{cell_moves}
use Rattle.tiles_apart.proofs.Parts.{Agree, crop_at}
use Rattle.tiles_apart.proofs.Pass.{pass_local}
use Rattle.tiles_apart.proofs.Scale.{
  from_4,
  from_8,
  from_fits,
  from_positive,
  from_less,
  to_in,
  to_next_in,
  to_moves,
  to_before_moves,
  to_next_moves,
  to_start,
  to_end,
}
use Rattle.tiles_apart.proofs.Segments.{column_closed, row_closed, segment_moves}
use Rattle.tiles_apart.proofs.Tile.{columns_span, rows_span, part_inside, plane_of_tile}

-- ---- one pass, along columns or along rows

-- s is the plane's sampling across the edges and s' that along them; the tile starts at the luma position a and is n
-- long across the edges, a' and n' along them. `between p q r` is the segment between the luma positions p and q at
-- the position r along the edge.
module _ {A : Type 0} (filter : A → Plane → Plane) (s s' : Sampling) (a n total a' n' : ℕ) (a16 : a % 16 ≡ 0)
    (n8 : n % 8 ≡ 0)
    (total8 : total % 8 ≡ 0) (fits : n + a ≤ total) (a'16 : a' % 16 ≡ 0) (n'8 : n' % 8 ≡ 0)
    (between' between : ℕ → ℕ → ℕ → Option A)
    (moves : (p q r : ℕ) → p < n → q < n → r < n' → between' p q r ≡ between (p + a) (q + a) (r + a'))
    (before : (r : ℕ) → 0 < a → between (a - 1) a r ≡ none)
    (behind : (r : ℕ) → n + a < total → between (n + a - 1) (n + a) r ≡ none) where
  -- the segment at edge e whose first line is l
  abbrev at_edge : (ℕ → ℕ → ℕ → Option A) → ℕ → ℕ → Option A
  at_edge b e l = b (to_luma s e - 1) (to_luma s e) (to_luma s' (l + 1))

  abbrev part : Part
  part = record { x = from_luma s a; y = from_luma s' a'; width = from_luma s n; height = from_luma s' n' }

  direction_local : (P' P : Plane) → Agree P' P part
      → Agree (pass filter (from_luma s n) (at_edge between') P') (pass filter (from_luma s total) (at_edge between) P)
      part
  direction_local P' P agree =
      pass_local filter (at_edge between') (at_edge between) P' P (from_luma s n) (from_luma s' n') (from_luma s total)
      (from_luma s a) (from_luma s' a')
      (from_8 s a a16) (omega (arith, from_8 s' a' a'16)) (from_4 s n n8) (from_4 s' n' n'8)
      (from_fits s n a total n8 a16 fits) agree inner left right
    where
      inner : (e l : ℕ) → e % 8 ≡ 0 → l % 4 ≡ 0 → 0 < e → e < from_luma s n → l < from_luma s' n'
          → at_edge between' e l ≡ at_edge between (e + from_luma s a) (l + from_luma s' a')
      inner e l e8 l4 he hn hl =
          moves (to_luma s e - 1) (to_luma s e) (to_luma s' (l + 1)) (omega (arith, to_in s e n hn)) (to_in s e n hn)
          (to_next_in s' l n' n'8 l4 hl)
          ∙ (λ k. between (to_before_moves s e a n a16 hn he k) (to_moves s e a n a16 hn k)
          (to_next_moves s' l a' n' a'16 hl k))

      left : (l : ℕ) → 0 < from_luma s a → at_edge between (from_luma s a) (l + from_luma s' a') ≡ none
      left l h = rw (to_start s a a16 h) (before (to_luma s' (l + from_luma s' a' + 1)) (from_positive s a h))

      right : (l : ℕ) → from_luma s n + from_luma s a < from_luma s total
          → at_edge between (from_luma s n + from_luma s a) (l + from_luma s' a') ≡ none
      right l h =
          rw (to_end s n a total n8 a16 h)
          (behind (to_luma s' (l + from_luma s' a' + 1)) (from_less s n a total n8 a16 total8 h))

-- ---- a component of a picture and its cut

abbrev position : ℕ → ℕ → Position
position x y = record { x = x; y = y }

module _ {p : Picture} (ok : PictureOk p) {i j : ℕ} (tile : IsTile p i j) (c : Component) where
  abbrev across : Sampling
  across = sampling_across p.settings.format c

  abbrev down : Sampling
  down = sampling_down p.settings.format c

  original_moves : Agree (original (cut p i j) c) (original p c) (tile_part p i j c)
  unfolding cut
  original_moves x y hx hy =
      ap (λ (l : List ℕ). at l (plane_width (cut p i j) c) x y) (plane_of_tile p i j p.originals c)
      ∙ crop_at (plane_of p.originals c) (plane_width p c) (plane_height p c) (tile_part p i j c) (ok.originals c)
      (part_inside ok tile c) x y hx hy

  restored_moves : (P' P : Plane) → Agree P' P (tile_part p i j c)
      → Agree (restored (cut p i j) c P') (restored p c P) (tile_part p i j c)
  unfolding restored cut
  restored_moves P' P agree x y hx hy =
      λ k. cond (suppressed p.settings.pcm_loop_filter_disabled (cells k)) (original_moves x y hx hy k)
      (agree x y hx hy k)
    where
      cells : cell_of_sample (cut p i j) (to_luma across x) (to_luma down y)
          ≡ cell_of_sample p (to_luma across (x + from_luma across (tile_left p i)))
          (to_luma down (y + from_luma down (tile_top p j)))
      cells =
          cell_moves ok tile (to_luma across x) (to_luma down y) (to_in across x (tile_width p i) hx)
          (to_in down y (tile_height p j) hy)
          ∙ (λ k.
          cell_of_sample p (to_moves across x (tile_left p i) (tile_width p i) (columns_span ok tile).sixteens hx k)
          (to_moves down y (tile_top p j) (tile_height p j) (rows_span ok tile).sixteens hy k))

  vertical_moves : (P' P : Plane) → Agree P' P (tile_part p i j c)
      → Agree (pass_of (cut p i j) c vertical P') (pass_of p c vertical P) (tile_part p i j c)
  unfolding pass_of cut
  vertical_moves =
      let X = columns_span ok tile in
      let Y = rows_span ok tile in
      let between : Picture → ℕ → ℕ → ℕ → Option Filter =
      λ t a b r. segment_at t c vertical (position a r) (position b r) in
      direction_local kernel across down (tile_left p i) (tile_width p i) p.width (tile_top p j) (tile_height p j)
      X.sixteens X.eights
      ok.width.eights X.fits Y.sixteens Y.eights (between (cut p i j)) (between p)
      (λ a b r ha hb hr. segment_moves ok tile (position a r) (position b r) (omega arith) (omega arith) c vertical)
      (λ r h. column_closed p c vertical (position (tile_left p i - 1) r) (position (tile_left p i) r) (X.before h))
      (λ r h.
      column_closed p c vertical (position (tile_width p i + tile_left p i - 1) r)
      (position (tile_width p i + tile_left p i) r) (X.behind h))

  horizontal_moves : (P' P : Plane) → Agree P' P (tile_part p i j c)
      → Agree (pass_of (cut p i j) c horizontal P') (pass_of p c horizontal P) (tile_part p i j c)
  unfolding pass_of cut
  horizontal_moves P' P agree x y hx hy =
      let X = columns_span ok tile in
      let Y = rows_span ok tile in
      let between : Picture → ℕ → ℕ → ℕ → Option Filter =
      λ t a b r. segment_at t c horizontal (position r a) (position r b) in
      direction_local kernel down across (tile_top p j) (tile_height p j) p.height (tile_left p i) (tile_width p i)
      Y.sixteens Y.eights
      ok.height.eights Y.fits X.sixteens X.eights (between (cut p i j)) (between p)
      (λ a b r ha hb hr. segment_moves ok tile (position r a) (position r b) (omega arith) (omega arith) c horizontal)
      (λ r h. row_closed p c horizontal (position r (tile_top p j - 1)) (position r (tile_top p j)) (Y.before h))
      (λ r h. row_closed p c horizontal (position r (tile_height p j + tile_top p j - 1))
      (position r (tile_height p j + tile_top p j)) (Y.behind h))
      (transposed P') (transposed P) (λ v w hv hw. agree w v hw hv) y x hy hx

  pub local : Agree (finished_plane (cut p i j) c) (finished_plane p c) (tile_part p i j c)
  unfolding finished_plane
  local = restored_moves _ _ (horizontal_moves _ _ (restored_moves _ _ (vertical_moves _ _ original_moves)))
