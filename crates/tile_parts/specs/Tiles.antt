-- Tiles by their column and row.
use Rattle.std.specs.Prelude.{ℕ, ◌≤◌, Bool, cond, List, [], ◌∷◌, Option, Some, None, leb, ltb, length}
use Rattle.picture.specs.declared.Settings as Code
use Rattle.picture.specs.Cut.{IsTile, cut, tile_part}
use Rattle.picture.specs.Given.{picture_of, planes_of}
use Rattle.picture.specs.Ledger.{any_of}
use Rattle.picture.specs.Picture.{Picture}
use Rattle.picture.specs.Plane.{Part}
use Rattle.picture.specs.Scale.{Y}
use Rattle.tile_parts.specs.declared.CutSize.{CutSize}
use Rattle.tile_parts.specs.declared.TileAt.{TileAt}

-- a picture of the settings and the tile starts alone, for what goes by them and by no other list
abbrev pub tiled : Code.Settings → List ℕ → List ℕ → Picture
tiled s columns rows = picture_of s (planes_of [] [] []) [] [] columns rows

-- there is no such tile
abbrev pub no_tile_at : Picture → TileAt → List Bool
no_tile_at p at = leb (length p.columns) at.column ∷ leb (length p.rows) at.row ∷ []

-- a tile of a picture whose CTBs are no larger than 64
pub record OnPicture (p : Picture) (at : TileAt) : Type 0 where
  pub tile : IsTile p at.column at.row
  pub ctb : p.settings.log2_ctb ≤ 6

-- a tile's part of the luma plane; none where there is no such tile, or the CTB size is above 64
unfoldable pub part_at : Picture → TileAt → Option Part
part_at p at =
    cond (any_of (ltb 6 p.settings.log2_ctb ∷ no_tile_at p at)) None (Some (tile_part p at.column at.row Y))

-- the luma columns and rows of the cut of a tile; none where there is no such tile, or the CTB size is above 64
unfoldable pub cut_size : Picture → TileAt → CutSize
cut_size p at =
    cond (any_of (ltb 6 p.settings.log2_ctb ∷ no_tile_at p at)) (record { width = 0; height = 0 })
    (record { width = (cut p at.column at.row).width; height = (cut p at.column at.row).height })
