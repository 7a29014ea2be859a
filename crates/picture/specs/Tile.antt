-- The tiles of one direction, columns or rows: a list of starts in CTBs. Document 01: "Tile column starts (1 to 20)
-- and row starts (1 to 22), in CTBs: first 0, rising, each below the number of CTBs that way (rounded up)."
use Rattle.std.specs.Prelude.{ℕ, suc, ◌+◌, ◌-◌, ◌*◌, ◌/◌, Bool, cond, ◌&&◌, List, [], ◌∷◌, leb, ltb, eqb, length, get_or}
use Rattle.picture.specs.Picture.{Picture, ctb_size}
use Rattle.picture.specs.Scale.{ctb_of}

-- the tile of a CTB: how many starts are not past it. In a rising list that is one more than the number of the last
-- start not past it, so two CTBs have one number exactly where they lie in one tile.
abbrev pub tile_of : List ℕ → ℕ → ℕ
tile_of [] ctb = 0
tile_of (start ∷ r) ctb = cond (leb start ctb) 1 0 + tile_of r ctb

-- the tile column of a luma column, and the tile row of a luma row
abbrev pub tile_column : Picture → ℕ → ℕ
tile_column p x = tile_of p.columns (ctb_of p.settings.log2_ctb x)

abbrev pub tile_row : Picture → ℕ → ℕ
tile_row p y = tile_of p.rows (ctb_of p.settings.log2_ctb y)

-- do the luma samples (px, py) and (qx, qy) lie in one tile? "Borders between tiles are closed. An open sheet passes
-- one tile": with the starts 0 and 0 every sample has tile column 1 and tile row 1.
unfoldable pub same_tile : Picture → ℕ → ℕ → ℕ → ℕ → Bool
same_tile p px py qx qy = eqb (tile_column p px) (tile_column p qx) && eqb (tile_row p py) (tile_row p qy)

-- "the number of CTBs that way (rounded up)", in `total` samples
abbrev pub ctb_count : ℕ → ℕ → ℕ
ctb_count size total = (total + size - 1) / size

-- 'The cut': "A tile runs from its column start to the next, times the CTB size, the last to the sheet's width; rows
-- likewise."
unfoldable pub tile_first : List ℕ → ℕ → ℕ → ℕ
tile_first starts size i = get_or starts i 0 * size

unfoldable pub tile_end : List ℕ → ℕ → ℕ → ℕ → ℕ
tile_end starts size total i = cond (ltb (suc i) (length starts)) (get_or starts (suc i) 0 * size) total

-- the first luma column of tile column i and the luma columns of it; the first luma row of tile row j and the luma
-- rows of it
abbrev pub tile_left : Picture → ℕ → ℕ
tile_left p i = tile_first p.columns (ctb_size p.settings) i

abbrev pub tile_top : Picture → ℕ → ℕ
tile_top p j = tile_first p.rows (ctb_size p.settings) j

abbrev pub tile_width : Picture → ℕ → ℕ
tile_width p i = tile_end p.columns (ctb_size p.settings) p.width i - tile_left p i

abbrev pub tile_height : Picture → ℕ → ℕ
tile_height p j = tile_end p.rows (ctb_size p.settings) p.height j - tile_top p j
