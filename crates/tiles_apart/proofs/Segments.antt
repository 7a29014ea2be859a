-- The segments of a cut are those of the picture, and the segments at the borders of a tile are closed.
use Prim.Native.Nat.{ℕ, ◌+◌, ◌<◌}
use mathlib.Core.Path.{◌≡◌, sym, ◌∙◌}
use mathlib.Core.Bool.{true, false}
use mathlib.Core.List.{List}
use mathlib.Core.Option.{none}
use native.Mathlib.Omega.{arith}
use borrow.Author.Tests.{eq-eqb, ne_eqb}
use lib.Dec.{eqb, leb-zero}
use Rattle.filter.specs.Segment.{Direction, Position, gate, between, segment_at}
use Rattle.picture.specs.declared.Cell.{Cell}
use Rattle.picture.specs.Accepted.{PictureOk}
use Rattle.picture.specs.Cell.{cell_of_sample}
use Rattle.picture.specs.Cut.{IsTile, cut}
use Rattle.picture.specs.Picture.{Picture, Settings}
use Rattle.picture.specs.Scale.{Component}
use Rattle.picture.specs.Tile.{tile_column, tile_row, same_tile, tile_left, tile_top, tile_width, tile_height}
use Rattle.tiles_apart.proofs.Cells.{cell_moves}
use Rattle.tiles_apart.proofs.Pass.{and_false}
use Rattle.tiles_apart.proofs.Tile.{columns_span, rows_span}

-- ---- across a border of tiles

lt_eqb : (m n : ℕ) → m < n → eqb m n ≡ false
lt_eqb m n h = ne_eqb m n (λ e. omega arith)

between_tiles : (t : Settings) (slices : List ℕ) (c : Component) (d : Direction) (p q : Cell)
    → between t slices c d p q false ≡ none
unfolding between gate
between_tiles t slices c d p q = simp and_false

closed : (p : Picture) (c : Component) (d : Direction) (a b : Position)
    → same_tile p a.x a.y b.x b.y ≡ false → segment_at p c d a b ≡ none
unfolding segment_at
closed p c d a b h =
    rw h (between_tiles p.settings p.slices c d (cell_of_sample p a.x a.y) (cell_of_sample p b.x b.y))

pub column_closed : (p : Picture) (c : Component) (d : Direction) (a b : Position)
    → tile_column p a.x < tile_column p b.x → segment_at p c d a b ≡ none
unfolding same_tile
column_closed p c d a b h = closed p c d a b (simp (lt_eqb _ _ h))

pub row_closed : (p : Picture) (c : Component) (d : Direction) (a b : Position) → tile_row p a.y < tile_row p b.y
    → segment_at p c d a b ≡ none
unfolding same_tile
row_closed p c d a b h = closed p c d a b (simp (lt_eqb _ _ h, and_false))

-- ---- inside a tile

-- a cut is one tile
one_tile : (p : Picture) (i j px py qx qy : ℕ) → same_tile (cut p i j) px py qx qy ≡ true
unfolding same_tile cut
one_tile p i j px py qx qy = simp leb-zero

-- a position of the tile, by itself and in the picture
pub record InTile (p : Picture) (i j : ℕ) (a : Position) : Type 0 where
  pub column : a.x < tile_width p i
  pub row : a.y < tile_height p j

abbrev pub moved : Picture → ℕ → ℕ → Position → Position
moved p i j a = record { x = a.x + tile_left p i; y = a.y + tile_top p j }

module _ {p : Picture} (ok : PictureOk p) {i j : ℕ} (tile : IsTile p i j) (a b : Position) (ha : InTile p i j a)
    (hb : InTile p i j b) where
  one_tile_there : same_tile p (a.x + tile_left p i) (a.y + tile_top p j) (b.x + tile_left p i) (b.y + tile_top p j)
      ≡ true
  unfolding same_tile
  one_tile_there =
      simp (
        eq-eqb _ _ ((columns_span ok tile).same a.x b.x ha.column hb.column),
        eq-eqb _ _ ((rows_span ok tile).same a.y b.y ha.row hb.row),
      )

  pub segment_moves : (c : Component) (d : Direction)
      → segment_at (cut p i j) c d a b ≡ segment_at p c d (moved p i j a) (moved p i j b)
  unfolding segment_at cut
  segment_moves c d =
      λ k.
      between p.settings p.slices c d (cell_moves ok tile a.x a.y ha.column ha.row k)
      (cell_moves ok tile b.x b.y hb.column hb.row k) (tiles k)
    where
      tiles : same_tile (cut p i j) a.x a.y b.x b.y
          ≡ same_tile p (a.x + tile_left p i) (a.y + tile_top p j) (b.x + tile_left p i) (b.y + tile_top p j)
      tiles = one_tile p i j a.x a.y b.x b.y ∙ sym one_tile_there
