-- What is answered: a refusal without a sum, or acceptance with the sums of the planes.
use Rattle.std.proofs.Common.{◌≡◌, ℕ, ◌<◌, cond, eqb, List, [], ◌∷◌, sym, refl, ap, ◌∙◌, arith, eq-eqb, ne_eqb}
use Rattle.picture.specs.Causes.{planes_ledger}
use Rattle.picture.specs.Ledger.{Verdict, acceptance, first_of}
use Rattle.picture.specs.Picture.{Picture}
use Rattle.picture.specs.Scale.{Y, Cb, Cr}
use Rattle.checksum.specs.Answer.{Answer, checksum_answer, plane_sum, plane_sums}
use Rattle.checksum.specs.Rows.{chroma_sum}

module _ (p : Picture) where
  -- the answer by the ledger's
  abbrev told : Verdict → Answer
  told v = record { verdict = v; sums = cond (eqb v.number 0) (plane_sums p) [] }

  pub without_sums : {v : Verdict} → v ≡ first_of (planes_ledger p) → 0 < v.number
      → record { verdict = v; sums = [] } ≡ checksum_answer p
  unfolding checksum_answer
  without_sums {v} e h =
      let no-sum : told v ≡ record { verdict = v; sums = [] } = rw (ne_eqb v.number 0 (omega arith)) in
      sym no-sum ∙ ap told e

  pub summed : acceptance ≡ first_of (planes_ledger p) → {l : List ℕ} → l ≡ plane_sums p
      → record { verdict = acceptance; sums = l } ≡ checksum_answer p
  unfolding checksum_answer
  summed e h = ap (λ (l : List ℕ). record { verdict = acceptance; sums = l }) h ∙ ap told e

  -- the code's form of a chroma plane's sum is the definition's
  pub chroma_sums :
      (chroma_sum p p.originals.cb ≡ plane_sum p Cb) × (chroma_sum p p.originals.cr ≡ plane_sum p Cr)
  chroma_sums = (refl, refl)

  -- a monochrome picture has one sum, every other three
  pub one_sum : p.settings.format ≡ 0 → {y : ℕ} → y ≡ plane_sum p Y → y ∷ [] ≡ plane_sums p
  one_sum mono e = rw (eq-eqb p.settings.format 0 mono) (ap (λ (n : ℕ). n ∷ []) e)

  pub three_sums : (p.settings.format ≡ 0 → ⊥) → {y cb cr : ℕ} → y ≡ plane_sum p Y → cb ≡ plane_sum p Cb
      → cr ≡ plane_sum p Cr → y ∷ cb ∷ cr ∷ [] ≡ plane_sums p
  three_sums some ey ecb ecr =
      let all : plane_sums p ≡ plane_sum p Y ∷ plane_sum p Cb ∷ plane_sum p Cr ∷ [] =
      rw (ne_eqb p.settings.format 0 some) in
      (λ i. ey i ∷ ecb i ∷ ecr i ∷ []) ∙ sym all
