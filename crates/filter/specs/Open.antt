-- Document 02, C-24: "Answer with the first open segment .. or with none". The full list of a picture's open segments,
-- in the order of Places.antt.
use Rattle.std.specs.Prelude.{ℕ, Bool, true, false, cond, ◌||◌, List, [], ◌∷◌}
use Rattle.std.proofs.Math.Option.{Option, none, some}
use Rattle.filter.specs.Kernel.{Filter}
use Rattle.filter.specs.Places.{Place, places}
use Rattle.filter.specs.Segment.{Direction, segment}
use Rattle.picture.specs.Picture.{Picture}
use Rattle.picture.specs.Scale.{Component, Y, Cb, Cr}

-- "Open means the gate passes and tc is above 0": there `segment` has a filter, and nowhere else
abbrev pub opened : Option Filter → Bool
opened none = false
opened (some f) = true

-- "(in chroma, for either plane)"
abbrev pub open_in : Picture → Component → Direction → ℕ → ℕ → Bool
open_in p Y d e l = opened (segment p Y d e l)
open_in p Cb d e l = opened (segment p Cb d e l) || opened (segment p Cr d e l)
open_in p Cr d e l = opened (segment p Cb d e l) || opened (segment p Cr d e l)

unfoldable pub is_open : Picture → Place → Bool
is_open p s = open_in p s.component s.direction s.edge s.line

-- those of a list that pass a test, in its order
abbrev pub keep : {A : Type 0} → (A → Bool) → List A → List A
keep test [] = []
keep test (a ∷ rest) = let r = keep test rest in cond (test a) (a ∷ r) r

-- "the full list"
unfoldable pub open_segments : Picture → List Place
open_segments p = keep (is_open p) (places p)
