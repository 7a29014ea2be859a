-- What document 02's C-11 answers to a picture's "finished planes", which are the given ones here.
use Rattle.std.specs.Prelude.{ℕ, cond, List, [], ◌∷◌, ◌==◌, Result, Ok, Err}
use Rattle.picture.specs.Causes.{planes_ledger}
use Rattle.picture.specs.Ledger.{Verdict, acceptance, first_of}
use Rattle.picture.specs.Picture.{Picture, depth_of, original, plane_height, plane_width}
use Rattle.picture.specs.Scale.{Component, Y, Cb, Cr}
use Rattle.ledger.specs.Numbered.{refused}
use Rattle.ledger.specs.declared.Refusal.{Refusal}
use Rattle.checksum.specs.Checksum.{checksum}
use Rattle.checksum.specs.declared.Checksums.TheVariants.{One, Three}
use Rattle.checksum.specs.declared.Checksums.{Checksums}

-- a plane's sum, by its own depth and size
abbrev pub plane_sum : Picture → Component → ℕ
plane_sum p c = checksum (depth_of p.settings c) (plane_width p c) (plane_height p c) (original p c)

-- "A monochrome sheet has one sum."
abbrev pub plane_sums : Picture → List ℕ
plane_sums p = cond (p.settings.format == 0) (plane_sum p Y ∷ []) (plane_sum p Y ∷ plane_sum p Cb ∷ plane_sum p Cr ∷ [])

-- a number with its place, and the sums
pub record Answer : Type 0 where
  pub verdict : Verdict
  pub sums : List ℕ

-- "Checks: the sheet's 1, 2, 3, 6 (the given planes only) and 10, in that order; a refusal gives no sum."
unfoldable pub checksum_answer : Picture → Answer
checksum_answer p =
    let v = first_of (planes_ledger p) in
    record { verdict = v; sums = cond (v.number == 0) (plane_sums p) [] }

-- the paper's number, place and sums, for every case of the enums
abbrev pub answer_of : Result Checksums Refusal → Answer
answer_of (Err r) = record { verdict = refused r; sums = [] }
answer_of (Ok (One y)) = record { verdict = acceptance; sums = y ∷ [] }
answer_of (Ok (Three y cb cr)) = record { verdict = acceptance; sums = y ∷ cb ∷ cr ∷ [] }
