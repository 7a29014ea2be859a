-- Whether a tile is there, its part, and the sizes of its cut.
use mathlib.Core.Path.{◌≡◌, refl, sym, ap, ◌∙◌}
use mathlib.Core.Bool.{Bool, true, false, cond}
use mathlib.Core.List.{List, ◌∷◌}
use borrow.Author.Tests.{leb-false, ltb-false}
use lib.Dec.{ltb}
use Rattle.std.specs.Prelude.{Option, Some, None}
use Rattle.checks.proofs.Tests.{or_of, any_of_lem}
use Rattle.picture.specs.Cut.{tile_part, cut}
use Rattle.picture.specs.Ledger.{any_of}
use Rattle.picture.specs.Picture.{Picture}
use Rattle.picture.specs.Plane.{Part}
use Rattle.picture.specs.Scale.{Y}
use Rattle.picture.proofs.Ledger.{none_out}
use Rattle.tile_parts.specs.declared.CutSize.{CutSize}
use Rattle.tile_parts.specs.declared.TileAt.{TileAt}
use Rattle.tile_parts.specs.Tiles.{OnPicture, no_tile_at, part_at, cut_size}

-- the sizes of a part that may be there
abbrev pub size_of : Option Part → CutSize
size_of None = record { width = 0; height = 0 }
size_of (Some luma) = record { width = luma.width; height = luma.height }

pub no_size : {size : CutSize} → (size.width ≡ 0) × (size.height ≡ 0) → size ≡ size_of None
no_size e = λ k. record { width = e.0 k; height = e.1 k }

module _ (p : Picture) (at : TileAt) where
  -- what the code tests
  abbrev tests : List Bool
  tests = ltb 6 p.settings.log2_ctb ∷ no_tile_at p at

  pub no_part : or_of tests ≡ true → None ≡ part_at p at
  unfolding part_at
  no_part e = rw (sym (any_of_lem tests) ∙ e)

  pub on_picture : or_of tests ≡ false → OnPicture p at
  on_picture e =
      let (ctb, (column, (row, _))) = none_out tests (sym (any_of_lem tests) ∙ e) in
      record {
        tile = record { column = leb-false _ _ column; row = leb-false _ _ row };
        ctb = ltb-false _ _ ctb;
      }

  pub part_is : or_of tests ≡ false → {luma : Part} → luma ≡ tile_part p at.column at.row Y → Some luma ≡ part_at p at
  unfolding part_at
  part_is e is = rw (sym (any_of_lem tests) ∙ e) (ap Some is)

  pub size_is : size_of (part_at p at) ≡ cut_size p at
  unfolding part_at cut_size cut
  size_is = by (any_of tests)
    where
      by : (t : Bool) → size_of (cond t None (Some (tile_part p at.column at.row Y)))
          ≡ cond t (record { width = 0; height = 0 })
          (record { width = (cut p at.column at.row).width; height = (cut p at.column at.row).height })
      by true = refl
      by false = refl
