-- `find_luma_part` meets its contract: no such tile, or its part.
-- Assumes nothing.
use Rattle.picture.specs.Picture.{Picture}
use Rattle.tile_parts.specs.Tiles.{tiled}
use Rattle.tile_parts.proofs.Sizes.{no_part, on_picture, part_is}
use Rattle.tile_parts.proofs.parts.find_luma_part.Goals as goal
use Rattle.tile_parts.proofs.parts.find_luma_part.Goals.{Start}

abbrev picture : Start → Picture
picture c =
    tiled c.args.settings c.args.columns.now c.args.rows.now

pub returns-then-settings-columns : goal.returns-then-settings-columns
returns-then-settings-columns c =
    no_part (picture (goal.at.returns-then-settings-columns c).Start) c.args.at c.if-settings-columns.true

pub luma_part-requires : goal.luma_part-requires
luma_part-requires c =
    on_picture (picture (goal.at.luma_part-requires c).Start) c.args.at c.if-settings-columns.false

pub returns : goal.returns
returns c =
    part_is (picture (goal.at.returns c).Start) c.args.at c.if-settings-columns.false c.luma_part.ensures
