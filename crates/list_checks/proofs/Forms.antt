-- The definition of this crate that says a cause in another form is the ledger's own, by computation.
use mathlib.Core.Path.{◌≡◌, refl}
use Rattle.picture.specs.Causes.{samples_cause}
use Rattle.picture.specs.Picture.{Picture, largest, plane_of}
use Rattle.picture.specs.Scale.{Component}
use Rattle.list_checks.specs.Samples.{above}

pub samples_are : (p : Picture) (c : Component)
    → above (largest p.settings c) (plane_of p.originals c) ≡ samples_cause p c
samples_are p c = refl
