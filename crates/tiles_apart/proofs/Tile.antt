-- A tile of an accepted picture, in both directions, and where it lies in each plane and in the cell records.
use Prim.Native.Nat.{ℕ, ◌-◌, ◌*◌, ◌≤◌, ◌^◌}
use mathlib.Core.Path.{◌≡◌, refl, ap, ◌∙◌}
use native.Mathlib.Omega.{arith}
use lib.ListN.{length}
use lib.Pow.{pow_pos, pow-add}
use Rattle.picture.specs.Accepted.{PictureOk}
use Rattle.picture.specs.Cut.{IsTile, tile_part, cell_part, tile_of_plane, tile_planes}
use Rattle.picture.specs.Picture.{Picture, Planes, plane_of, plane_width, plane_height, ctb_size}
use Rattle.picture.specs.Scale.{Component, Y, Cb, Cr, sampling_across, sampling_down, cell_of}
use Rattle.picture.specs.Tile.{tile_left, tile_top, tile_width, tile_height}
use Rattle.tiles_apart.proofs.Parts.{Inside}
use Rattle.tiles_apart.proofs.Scale.{from_fits}
use Rattle.tiles_apart.proofs.Span.{Span, span}

pub plane_of_tile : (p : Picture) (i j : ℕ) (planes : Planes) (c : Component)
    → plane_of (tile_planes p i j planes) c ≡ tile_of_plane p i j planes c
plane_of_tile p i j planes Y = refl
plane_of_tile p i j planes Cb = refl
plane_of_tile p i j planes Cr = refl

ctb_16 : (n : ℕ) → 4 ≤ n → 2 ^ n ≡ 16 * 2 ^ (n - 4)
ctb_16 n h = ap (2 ^◌) (omega arith) ∙ pow-add 2 4 (n - 4)

module _ {p : Picture} (ok : PictureOk p) {i j : ℕ} (tile : IsTile p i j) where
  pub columns_span : Span p.columns (ctb_size p.settings) p.width (tile_left p i) (tile_width p i)
  columns_span =
      span p.columns 20 (ctb_size p.settings) (2 ^ (p.settings.log2_ctb - 4)) p.width i
      (ctb_16 p.settings.log2_ctb ok.settings.ctb_low) (pow_pos p.settings.log2_ctb) ok.columns
      ok.width.eights tile.column

  pub rows_span : Span p.rows (ctb_size p.settings) p.height (tile_top p j) (tile_height p j)
  rows_span =
      span p.rows 22 (ctb_size p.settings) (2 ^ (p.settings.log2_ctb - 4)) p.height j
      (ctb_16 p.settings.log2_ctb ok.settings.ctb_low) (pow_pos p.settings.log2_ctb) ok.rows
      ok.height.eights tile.row

  pub part_inside : (c : Component) → Inside (tile_part p i j c) (plane_width p c) (plane_height p c)
  part_inside c = record {
    columns =
        from_fits (sampling_across p.settings.format c) (tile_width p i) (tile_left p i) p.width
        columns_span.eights columns_span.sixteens
        columns_span.fits;
    rows =
        from_fits (sampling_down p.settings.format c) (tile_height p j) (tile_top p j) p.height
        rows_span.eights rows_span.sixteens
        rows_span.fits;
  }

  pub cells_inside : Inside (cell_part p i j) (8 * cell_of p.width) (cell_of p.height)
  cells_inside = record { columns = omega (arith, columns_span); rows = omega (arith, rows_span) }

  -- the cell records as rows of bytes
  pub cells_rows : length p.cells ≡ 8 * cell_of p.width * cell_of p.height
  cells_rows = omega (arith, ok.cells_long)
