-- The definitions of this crate that say a cause in another form are the ledger's own, by computation.
use mathlib.Core.Path.{◌≡◌, refl}
use mathlib.Core.Bool.{Bool}
use mathlib.Core.List.{List}
use lib.ListN.{length}
use Rattle.std.specs.Prelude.{Some}
use Rattle.picture.specs.Causes.{bad_lists, bad_planes, cause6}
use Rattle.picture.specs.Ledger.{once}
use Rattle.picture.specs.Picture.{Picture, Planes}
use Rattle.checks.specs.declared.lengths.OutputLengths.TheVariants as Lent
use Rattle.checks.specs.Lengths.{bad_lengths, lent_tests, list_tests}

-- what is lent to the stage: three planes
pub lent_planes : (p : Picture) (planes : Planes)
    → lent_tests p (Some (Lent.Planes (length planes.y) (length planes.cb) (length planes.cr))) ≡ bad_planes p planes
lent_planes p planes = refl

pub lists_are : (p : Picture)
    → list_tests p (length p.cells) (length p.slices) (length p.columns) (length p.rows) ≡ bad_lists p
lists_are p = refl

pub lengths_are : (lent : List Bool) (p : Picture) → once (bad_lengths lent p) ≡ cause6 lent p
lengths_are lent p = refl
