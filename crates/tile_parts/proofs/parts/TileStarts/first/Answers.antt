-- `first` meets its contract: the CTB is the tile's start, and the shift does not wrap.
-- Assumes nothing.
use borrow.Author.Rules.{rules}
use Rattle.picture.specs.Tile.{tile_first}
use Rattle.tile_parts.proofs.parts.TileStarts.first.Goals as goal

pub returns : goal.returns
unfolding tile_first
returns c =
    search rules
