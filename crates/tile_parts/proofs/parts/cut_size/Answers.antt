-- `cut_size` meets its contract: the sizes of the part that may be there.
-- Assumes nothing.
use mathlib.Core.Path.{sym, ap, ◌∙◌}
use Rattle.std.specs.Prelude.{Option, option_map}
use Rattle.tile_parts.specs.declared.Part as Code
use Rattle.tile_parts.specs.Parts.{part_of}
use Rattle.tile_parts.specs.Tiles.{tiled}
use Rattle.tile_parts.proofs.Sizes.{no_size, size_is, size_of}
use Rattle.tile_parts.proofs.parts.cut_size.Goals as goal

pub returns-in_default : goal.returns-in_default
returns-in_default c =
    let a = c.args in
    no_size c.default.ensures ∙ ap (λ (o : Option Code.Part). size_of (option_map part_of o)) (sym c.in_default.is)
    ∙ ap size_of c.find_luma_part.ensures
    ∙ size_is (tiled a.settings a.columns.now a.rows.now) a.at

pub returns : goal.returns
returns c =
    let a = c.args in
    ap size_of c.in-Some.ensures ∙ size_is (tiled a.settings a.columns.now a.rows.now) a.at
