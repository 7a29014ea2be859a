-- Document 02, C-13: "The empty list shall stand for the record 0, 6, 5, 1." `verdict` and `outputs` are the answer and
-- the planes that the stage's contract names: what is said of them here is said of the stage.
use Rattle.std.specs.Prelude.{ℕ, ◌≡◌, List, [], ◌∷◌}
use Rattle.filter.specs.Finished.{outputs}
use Rattle.picture.specs.Causes.{verdict}
use Rattle.picture.specs.Picture.{Picture, Planes, with_lists}

-- the same picture with another slice list
abbrev pub with_slices : List ℕ → Picture → Picture
with_slices slices p = with_lists p.cells slices p

-- The empty list stands for the list l: every picture whose slice list is empty has the answer and the output planes
-- of the same picture with l. No picture is left out: one with a cell that names another slice than 0 is refused either
-- way, with the same number and place. `lent` are the output planes, holding anything.
pub record StandsFor (l : List ℕ) : Type 0 where
  pub same_verdict : (p : Picture) (lent : Planes) → p.slices ≡ [] → verdict p lent ≡ verdict (with_slices l p) lent
  pub same_outputs : (p : Picture) (lent : Planes) → p.slices ≡ [] → outputs p lent ≡ outputs (with_slices l p) lent

-- the list of that one record
abbrev pub listed : List ℕ
listed = 0 ∷ 6 ∷ 5 ∷ 1 ∷ []

-- the sentence
abbrev pub EmptyList : Type 0
EmptyList = StandsFor listed
