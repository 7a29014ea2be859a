-- Document 01, 'The cut': "Its cut is a sheet of that width and height: the tile's original samples row by row
-- (chroma bounds divided by the format's scales), its cell records byte for byte, column starts 0, row starts 0,
-- output planes of its own lengths holding anything, all else as in the sheet."
use Rattle.std.specs.Prelude.{ℕ, ◌*◌, ◌<◌, [], ◌∷◌, List, length}
use Rattle.picture.specs.Picture.{Picture, Planes, plane_of, plane_width, across, down}
use Rattle.picture.specs.Plane.{Part, crop}
use Rattle.picture.specs.Scale.{Component, Y, Cb, Cr, cell_of}
use Rattle.picture.specs.Tile.{tile_left, tile_top, tile_width, tile_height}

-- tile (i, j) is there
pub record IsTile (p : Picture) (i j : ℕ) : Type 0 where
  pub column : i < length p.columns
  pub row : j < length p.rows

-- the part of a component's plane that is tile (i, j), and its part of the cell records, 8 bytes to a cell
abbrev pub tile_part : Picture → ℕ → ℕ → Component → Part
tile_part p i j c = record {
  x = across p.settings c (tile_left p i);
  y = down p.settings c (tile_top p j);
  width = across p.settings c (tile_width p i);
  height = down p.settings c (tile_height p j);
}

abbrev pub cell_part : Picture → ℕ → ℕ → Part
cell_part p i j = record {
  x = 8 * cell_of (tile_left p i);
  y = cell_of (tile_top p j);
  width = 8 * cell_of (tile_width p i);
  height = cell_of (tile_height p j);
}

-- the tile's samples of three planes of the picture's size
abbrev pub tile_of_plane : Picture → ℕ → ℕ → Planes → Component → List ℕ
tile_of_plane p i j planes c = crop (plane_of planes c) (plane_width p c) (tile_part p i j c)

abbrev pub tile_planes : Picture → ℕ → ℕ → Planes → Planes
tile_planes p i j planes = record {
  y = tile_of_plane p i j planes Y;
  cb = tile_of_plane p i j planes Cb;
  cr = tile_of_plane p i j planes Cr;
}

-- the tile in column i and row j as a picture alone
unfoldable pub cut : Picture → ℕ → ℕ → Picture
cut p i j = record {
  width = tile_width p i;
  height = tile_height p j;
  settings = p.settings;
  originals = tile_planes p i j p.originals;
  cells = crop p.cells (8 * cell_of p.width) (cell_part p i j);
  slices = p.slices;
  columns = 0 ∷ [];
  rows = 0 ∷ [];
}
