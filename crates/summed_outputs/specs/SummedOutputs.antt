-- Document 02, C-11: "Intake wants the picture checksum of H.265 Annex D (decoded picture hash) for finished planes".
-- `verdict` and `outputs` are the answer and the planes that the stage's contract names, `checksum_answer` is what the
-- checksum's contract names: what is said of them here is said of a call of the one and then of the other.
use Rattle.std.specs.Prelude.{ℕ, ◌≡◌, cond, List, [], ◌∷◌, eqb}
use Rattle.checksum.specs.Answer.{checksum_answer}
use Rattle.checksum.specs.Checksum.{checksum}
use Rattle.filter.specs.Finished.{finished_plane, outputs}
use Rattle.picture.specs.Causes.{verdict}
use Rattle.picture.specs.Ledger.{acceptance}
use Rattle.picture.specs.Picture.{Picture, Planes, depth_of, plane_height, plane_width, with_planes}
use Rattle.picture.specs.Scale.{Component, Y, Cb, Cr}

-- Annex D's sum of a plane as clause 8.7.2 leaves it
abbrev pub finished_sum : Picture → Component → ℕ
finished_sum p c = checksum (depth_of p.settings c) (plane_width p c) (plane_height p c) (finished_plane p c)

-- "A monochrome sheet has one sum."
abbrev pub finished_sums : Picture → List ℕ
finished_sums p =
    cond (eqb p.settings.format 0) (finished_sum p Y ∷ [])
    (finished_sum p Y ∷ finished_sum p Cb ∷ finished_sum p Cr ∷ [])

-- of every accepted picture, what the stage leaves passes the checks of the checksum, and its sums are those
abbrev pub OutputsSummed : Type 0
OutputsSummed = (p : Picture) (lent : Planes) → verdict p lent ≡ acceptance
    → checksum_answer (with_planes (outputs p lent) p) ≡ record { verdict = acceptance; sums = finished_sums p }
