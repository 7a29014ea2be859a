-- The cells of a cut are those of the picture.
use Prim.Native.Nat.{ℕ, ◌+◌, ◌*◌, ◌<◌}
use mathlib.Core.Path.{◌≡◌, ◌∙◌}
use mathlib.Core.List.{List}
use native.Mathlib.Omega.{arith}
use Rattle.picture.specs.Accepted.{PictureOk}
use Rattle.picture.specs.Cell.{cell_byte, cell_at, cell_number, cell_of_sample}
use Rattle.picture.specs.Cut.{IsTile, cell_part, cut}
use Rattle.picture.specs.Picture.{Picture}
use Rattle.picture.specs.Plane.{at}
use Rattle.picture.specs.Scale.{cell_of}
use Rattle.picture.specs.Tile.{tile_left, tile_top, tile_width, tile_height}
use Rattle.tiles_apart.proofs.Parts.{index, crop_at}
use Rattle.tiles_apart.proofs.Tile.{columns_span, rows_span, cells_inside, cells_rows}

-- cells of the same bytes
cell_same : (l l' : List ℕ) (n n' : ℕ) → ((b : ℕ) → b < 8 → cell_byte l n b ≡ cell_byte l' n' b)
    → cell_at l n ≡ cell_at l' n'
unfolding cell_at
cell_same l l' n n' same = λ k. record {
  qp = same 0 (omega arith) k;
  flags = same 1 (omega arith) k;
  bsv = same 2 (omega arith) k;
  bsh = same 3 (omega arith) k;
  slice = same 4 (omega arith) k + 256 * same 5 (omega arith) k;
}

module _ {p : Picture} (ok : PictureOk p) {i j : ℕ} (tile : IsTile p i j) where
  -- by cell column and row
  pub byte_moves : (column row b : ℕ) → column < cell_of (tile_width p i) → row < cell_of (tile_height p j) → b < 8
      → cell_byte (cut p i j).cells (cell_number (cell_of (tile_width p i)) column row) b
      ≡ cell_byte p.cells
      (cell_number (cell_of p.width) (column + cell_of (tile_left p i)) (row + cell_of (tile_top p j))) b
  unfolding cut at
  byte_moves column row b hc hr hb =
      index (cut p i j).cells (omega arith)
      ∙ crop_at p.cells (8 * cell_of p.width) (cell_of p.height) (cell_part p i j) (cells_rows ok tile)
      (cells_inside ok tile)
      (8 * column + b) row (omega arith) hr
      ∙ index p.cells (omega arith)

  -- by luma sample
  pub cell_moves : (x y : ℕ) → x < tile_width p i → y < tile_height p j
      → cell_of_sample (cut p i j) x y ≡ cell_of_sample p (x + tile_left p i) (y + tile_top p j)
  unfolding cut
  cell_moves x y hx hy =
      cell_same (cut p i j).cells p.cells _ _
      (λ b hb. byte_moves (cell_of x) (cell_of y) b (omega (arith, columns_span ok tile))
      (omega (arith, rows_span ok tile)) hb ∙ index p.cells (numbers b))
    where
      numbers : (b : ℕ)
          → 8 * cell_number (cell_of p.width) (cell_of x + cell_of (tile_left p i))
          (cell_of y + cell_of (tile_top p j)) + b
          ≡ 8 * cell_number (cell_of p.width) (cell_of (x + tile_left p i)) (cell_of (y + tile_top p j)) + b
      numbers b =
          let column : cell_of x + cell_of (tile_left p i) ≡ cell_of (x + tile_left p i) =
          omega (arith, columns_span ok tile) in
          let row : cell_of y + cell_of (tile_top p j) ≡ cell_of (y + tile_top p j) =
          omega (arith, rows_span ok tile) in
          λ k. 8 * cell_number (cell_of p.width) (column k) (row k) + b
