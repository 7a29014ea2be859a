-- Cause 6 of the ledger. It goes by lengths alone, so what a call is lent to be written is handed over by its lengths.
use Rattle.std.specs.Prelude.{ℕ, ◌%◌, Bool, not, List, [], ◌∷◌, ◌++◌, eqb, ltb, Option, Some, None}
use Rattle.picture.specs.Causes.{bad_cells, bad_lists, bad_plane, bad_planes}
use Rattle.picture.specs.Picture.{Picture}
use Rattle.picture.specs.Scale.{Y, Cb, Cr}
use Rattle.checks.specs.declared.lengths.OutputLengths.TheVariants.{Planes, Cells}
use Rattle.checks.specs.declared.lengths.OutputLengths.{OutputLengths}

-- bad_planes and bad_lists, by the lengths of the lists (proofs/Forms.antt: they are the same)
abbrev pub plane_tests : Picture → ℕ → ℕ → ℕ → List Bool
plane_tests p y cb cr = bad_plane p Y y ∷ bad_plane p Cb cb ∷ bad_plane p Cr cr ∷ []

abbrev pub list_tests : Picture → ℕ → ℕ → ℕ → ℕ → List Bool
list_tests p cells slices columns rows =
    bad_cells p cells
    ∷ not (eqb (slices % 4) 0)
    ∷ ltb 2400 slices
    ∷ ltb columns 1
    ∷ ltb 20 columns
    ∷ ltb rows 1
    ∷ ltb 22 rows
    ∷ []

-- the tests of what is lent to be written: nothing, "three output planes of the same lengths", or a second cell list
abbrev pub lent_tests : Picture → Option OutputLengths → List Bool
lent_tests p None = []
lent_tests p (Some (Planes y cb cr)) = plane_tests p y cb cr
lent_tests p (Some (Cells bytes)) = bad_cells p bytes ∷ []

-- the tests of cause6, those of what is lent among them
abbrev pub bad_lengths : List Bool → Picture → List Bool
bad_lengths lent p = bad_planes p p.originals ++ (lent ++ bad_lists p)
