-- What the check of a tile answers, and when.
use Rattle.std.specs.Prelude.{ℕ, ◌*◌, ◌≡◌, Bool, cond, List, [], ◌∷◌, ◌++◌, Result, Ok, Err, eqb, length}
use Rattle.checks.specs.Lengths.{plane_tests}
use Rattle.filter.specs.Count.{differences}
use Rattle.filter.specs.Finished.{outputs}
use Rattle.ledger.specs.Numbered as Numbered
use Rattle.picture.specs.Accepted.{PlanesOk}
use Rattle.picture.specs.Causes.{bad_cells, verdict}
use Rattle.picture.specs.Cell.{cell_count}
use Rattle.picture.specs.Cut.{cut}
use Rattle.picture.specs.Ledger as Ledger
use Rattle.picture.specs.Ledger.{any_of}
use Rattle.picture.specs.Picture.{Picture, Planes}
use Rattle.tile_check.specs.declared.TileRefusal.{TileRefusal}
use Rattle.tile_check.specs.declared.TileRefusal.TheVariants as Case
use Rattle.tile_parts.specs.declared.TileAt.{TileAt}
use Rattle.tile_parts.specs.Tiles.{no_tile_at}
use Rattle.tiles_apart.specs.Term3.{AcceptedTile}

pub data Outcome : Type 0 where
  refused : Ledger.Verdict → Outcome
  no_tile lengths : Outcome
  differing : ℕ → Outcome

-- the case that an answer stands for; a picture's refusal is its number and its place
abbrev pub told_refusal : TileRefusal → Outcome
told_refusal (Case.Picture r) = refused (Numbered.refused r)
told_refusal Case.NoTile = no_tile
told_refusal Case.Lengths = lengths

abbrev pub told : Result ℕ TileRefusal → Outcome
told (Ok n) = differing n
told (Err e) = told_refusal e

-- the lists lent for the cut: its three original planes, its cells and its three output planes
pub record Scratch : Type 0 where
  pub originals : Planes
  pub cells : List ℕ
  pub own : Planes

abbrev pub scratch : Planes → List ℕ → Planes → Scratch
scratch originals cells own = record { originals = originals; cells = cells; own = own }

-- the tile's cut
abbrev pub cut_at : Picture → TileAt → Picture
cut_at p at = cut p at.column at.row

-- a list lent for the cut q has not its exact length; the lists are given by their lengths: the original planes, the
-- cells, the output planes
abbrev pub scratch_tests : Picture → ℕ → ℕ → ℕ → ℕ → ℕ → ℕ → ℕ → List Bool
scratch_tests q y cb cr cells outy outcb outcr =
    plane_tests q y cb cr ++ (plane_tests q outy outcb outcr ++ (bad_cells q cells ∷ []))

abbrev pub bad_scratch : Picture → Scratch → List Bool
bad_scratch q s =
    scratch_tests q (length s.originals.y) (length s.originals.cb) (length s.originals.cr)
    (length s.cells) (length s.own.y) (length s.own.cb) (length s.own.cr)

-- of an accepted picture with these outputs: is the tile there, have the lists their exact lengths, and how many
-- samples differ
unfoldable pub compared : Picture → TileAt → Scratch → Planes → Outcome
compared p at s output =
    cond (any_of (no_tile_at p at)) no_tile
    (cond (any_of (bad_scratch (cut_at p at) s)) lengths
    (differing (differences p at.column at.row (outputs (cut_at p at) s.own) output)))

-- the picture's own verdict goes first; `lent` are the output planes lent with it
unfoldable pub outcome : Picture → Planes → TileAt → Scratch → Outcome
outcome p lent at s =
    cond (eqb (verdict p lent).number 0) (compared p at s (outputs p lent)) (refused (verdict p lent))

-- what the lists hold after it, case by case as `compared`: where samples are counted, the cut's originals and cells
-- and its outputs; else `s` itself, nothing written
unfoldable pub written : Picture → TileAt → Scratch → Scratch
written p at s =
    cond (any_of (no_tile_at p at)) s
    (cond (any_of (bad_scratch (cut_at p at) s)) s
    (scratch (cut_at p at).originals (cut_at p at).cells (outputs (cut_at p at) s.own)))

-- the same, as `outcome`: nothing is written where the picture is refused
unfoldable pub after : Picture → Planes → TileAt → Scratch → Scratch
after p lent at s = cond (eqb (verdict p lent).number 0) (written p at s) s

-- lists of the lengths that the cut q needs
pub record ScratchOk (q : Picture) (s : Scratch) : Type 0 where
  pub originals : PlanesOk q s.originals
  pub own : PlanesOk q s.own
  pub cells : length s.cells ≡ 8 * cell_count q

-- a tile of an accepted picture, with lists of the right lengths
pub record Checkable (p : Picture) (lent : Planes) (at : TileAt) (s : Scratch) : Type 0 where
  pub tile : AcceptedTile p lent at.column at.row
  pub scratch : ScratchOk (cut_at p at) s
