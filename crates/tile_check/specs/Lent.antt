-- A name for the lists that are lent for a cut, as picture/specs/Lent has for a picture: the original planes, the
-- cells and the output planes, as they are given to a function or as it leaves them.
use Rattle.std.specs.Prelude.{ℕ, List}
use Rattle.picture.specs.Given.{planes_of}
use Rattle.tile_check.specs.Answer.{Scratch, scratch}

abbrev pub scratch_of : List ℕ → List ℕ → List ℕ → List ℕ → List ℕ → List ℕ → List ℕ → Scratch
scratch_of y cb cr cells outy outcb outcr = scratch (planes_of y cb cr) cells (planes_of outy outcb outcr)
