-- The cut of an accepted picture is a picture that is accepted.
use Prim.Native.Nat.{ℕ, zero, suc, ◌+◌, ◌*◌, ◌/◌, ◌%◌, ◌≤◌, ◌<◌}
use mathlib.Core.Path.{◌≡◌, refl, ap, sym, ◌∙◌, subst}
use mathlib.Core.List.{List, [], ◌∷◌}
use native.Mathlib.Nat.{le-div_iff_mul-le}
use native.Mathlib.Omega.{arith}
use lib.ListN.{length, get_or}
use lib.Pow.{pow_pos}
use Rattle.picture.specs.Accepted.{PictureOk, SizeOk, StartsOk, CellOk, AllStrengthsOk}
use Rattle.picture.specs.Cell.{cell_byte, cell_count, cell_number}
use Rattle.picture.specs.Cut.{IsTile, tile_part, cell_part, tile_of_plane, cut}
use Rattle.picture.specs.Picture.{Picture, plane_of, plane_width, plane_height, across, down, largest, ctb_size}
use Rattle.picture.specs.Plane.{at}
use Rattle.picture.specs.Scale.{Component, cell_of}
use Rattle.picture.specs.Tile.{ctb_count, tile_left, tile_top, tile_width, tile_height}
use Rattle.picture.proofs.Accepted.{strengths_same}
use Rattle.tiles_apart.proofs.Cells.{byte_moves}
use Rattle.tiles_apart.proofs.Parts.{Split, split, at_split, within, crop_at, crop_length}
use Rattle.tiles_apart.proofs.Tile.{
  columns_span,
  rows_span,
  part_inside,
  plane_of_tile,
  cells_inside,
  cells_rows,
}

-- one tile is in rule
one_start : (many size total : ℕ) → 0 < many → 0 < size → 0 < total → StartsOk (0 ∷ []) many size total
one_start many size total hm hs ht = record {
  one = omega arith;
  few = omega arith;
  zeroth = refl;
  rising = λ k h. absurd (omega arith);
  below = below;
}
  where
    below : (k : ℕ) → k < 1 → get_or (0 ∷ []) k 0 < ctb_count size total
    below zero h = (le-div_iff_mul-le hs).1 (omega arith)
    below (suc k) h = absurd (omega arith)

size_ok : (n a total : ℕ) → 0 < n → n % 8 ≡ 0 → n + a ≤ total → total ≤ 8192 → SizeOk n
size_ok n a total h e f t = omega arith

-- a cell in range, by its bytes
cell_ok : (depth : ℕ) (slices : List ℕ) (f g : ℕ → ℕ) → ((b : ℕ) → b < 8 → f b ≡ g b) → CellOk depth slices g
    → CellOk depth slices f
cell_ok depth slices f g e ok = record {
  qp_low = rw (e 0 (omega arith)) ok.qp_low;
  qp_high = rw (e 0 (omega arith)) ok.qp_high;
  flags = omega (arith, e 1 (omega arith));
  bsv = omega (arith, e 2 (omega arith));
  bsh = omega (arith, e 3 (omega arith));
  slice = omega (arith, e 4 (omega arith), e 5 (omega arith));
  sixth = omega (arith, e 6 (omega arith));
  seventh = omega (arith, e 7 (omega arith));
}

module _ {p : Picture} (ok : PictureOk p) {i j : ℕ} (tile : IsTile p i j) where
  -- cell n of the cut is a cell of the picture
  record Found (n : ℕ) : Type 0 where
    number : ℕ
    there : number < cell_count p
    same : (b : ℕ) → b < 8 → cell_byte (cut p i j).cells n b ≡ cell_byte p.cells number b

  found : (n : ℕ) → n < cell_of (tile_width p i) * cell_of (tile_height p j) → Found n
  found n h =
      let w : ℕ = cell_of (tile_width p i) in
      let d : Split w (cell_of (tile_height p j)) n = split w (cell_of (tile_height p j)) n h in
      let x : ℕ = n % w + cell_of (tile_left p i) in
      let y : ℕ = n / w + cell_of (tile_top p j) in
      let inside = cells_inside ok tile in
      record {
        number = cell_number (cell_of p.width) x y;
        there = within (cell_of p.width) (cell_of p.height) x y (omega arith) (omega arith);
        same = λ b hb.
            ap (λ (m : ℕ). cell_byte (cut p i j).cells m b) d.whole
            ∙ byte_moves ok tile (n % w) (n / w) b d.column d.row hb;
      }

  cells : (n : ℕ) → n < cell_of (tile_width p i) * cell_of (tile_height p j)
      → CellOk p.settings.luma_depth p.slices (cell_byte (cut p i j).cells n)
  cells n h =
      let f = found n h in
      cell_ok p.settings.luma_depth p.slices _ _ f.same (ok.cells f.number f.there)

  pub strengths : AllStrengthsOk p → AllStrengthsOk (cut p i j)
  unfolding cut
  strengths obeyed n h = let f = found n h in strengths_same _ _ f.same (obeyed f.number f.there)

  module _ (c : Component) where
    abbrev W : ℕ
    W = plane_width p c

    abbrev H : ℕ
    H = plane_height p c

    abbrev w : ℕ
    w = across p.settings c (tile_width p i)

    abbrev h : ℕ
    h = down p.settings c (tile_height p j)

    abbrev list : List ℕ
    list = tile_of_plane p i j p.originals c

    plane_long : length list ≡ w * h
    plane_long =
        crop_length (plane_of p.originals c) W H (tile_part p i j c) (ok.originals c) (part_inside ok tile c)

    samples : (k : ℕ) → k < length list → get_or list k 0 ≤ largest p.settings c
    unfolding at
    samples k hk =
        let d : Split w h k = split w h k (omega (arith, plane_long)) in
        let x : ℕ = k % w + across p.settings c (tile_left p i) in
        let y : ℕ = k / w + down p.settings c (tile_top p j) in
        let inside = part_inside ok tile c in
        let from : get_or list k 0 ≡ get_or (plane_of p.originals c) (y * W + x) 0 =
        at_split list w h k d
        ∙ crop_at (plane_of p.originals c) W H (tile_part p i j c) (ok.originals c) inside (k % w) (k / w)
        d.column d.row in
        rw from (ok.samples c (y * W + x)
        (omega (arith, ok.originals c, within W H x y (omega arith) (omega arith))))

  pub accepted : PictureOk (cut p i j)
  unfolding cut
  accepted =
      let X = columns_span ok tile in
      let Y = rows_span ok tile in
      record {
        width = size_ok (tile_width p i) (tile_left p i) p.width X.least X.eights X.fits ok.width.most;
        height =
            size_ok (tile_height p j) (tile_top p j) p.height Y.least Y.eights Y.fits ok.height.most;
        settings = ok.settings;
        originals = λ c. ap length (plane_of_tile p i j p.originals c) ∙ plane_long c;
        cells_long =
            crop_length p.cells (8 * cell_of p.width) (cell_of p.height) (cell_part p i j) (cells_rows ok tile)
            (cells_inside ok tile) ∙ omega arith;
        slices = ok.slices;
        columns =
            one_start 20 (ctb_size p.settings) (tile_width p i) (omega arith) (pow_pos p.settings.log2_ctb)
            X.least;
        rows =
            one_start 22 (ctb_size p.settings) (tile_height p j) (omega arith) (pow_pos p.settings.log2_ctb)
            Y.least;
        cells = cells;
        samples = λ c.
            subst (λ (l : List ℕ). (k : ℕ) → k < length l → get_or l k 0 ≤ largest p.settings c)
            (sym (plane_of_tile p i j p.originals c)) (samples c);
      }
