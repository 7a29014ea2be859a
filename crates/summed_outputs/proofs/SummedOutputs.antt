-- The finished planes of an accepted picture pass the checks, and what is summed is the finished samples.
use Prim.Native.Nat.{ℕ}
use mathlib.Core.Path.{◌≡◌, ap, ◌∙◌}
use mathlib.Core.Bool.{cond}
use mathlib.Core.List.{List, [], ◌∷◌}
use lib.Dec.{eqb}
use Rattle.bounded_moves.proofs.Checked.{outputs_checked}
use Rattle.checksum.specs.Answer.{Answer, checksum_answer, plane_sum, plane_sums}
use Rattle.checksum.proofs.Same.{checksum_same}
use Rattle.filter.specs.Finished.{finished_plane, outputs}
use Rattle.filter.proofs.Outputs.{finished_at, outputs_finished}
use Rattle.picture.specs.Causes.{verdict}
use Rattle.picture.specs.Ledger.{Verdict, acceptance}
use Rattle.picture.specs.Picture.{Picture, Planes, depth_of, plane_height, plane_of, plane_width, with_planes}
use Rattle.picture.specs.Plane.{at}
use Rattle.picture.specs.Scale.{Component, Y, Cb, Cr}
use Rattle.summed_outputs.specs.SummedOutputs.{OutputsSummed, finished_sum, finished_sums}

module _ (p : Picture) (lent : Planes) (e : verdict p lent ≡ acceptance) where
  -- the picture that is summed
  abbrev q : Picture
  q = with_planes (outputs p lent) p

  one : (c : Component) → plane_sum q c ≡ finished_sum p c
  one c =
      checksum_same (depth_of p.settings c) (plane_width p c) (plane_height p c)
      (at (plane_of (outputs p lent) c) (plane_width p c)) (finished_plane p c)
      (λ x y hx hy.
      ap (λ (planes : Planes). at (plane_of planes c) (plane_width p c) x y) (outputs_finished p lent e)
      ∙ finished_at p c x y hx hy)

  all : plane_sums q ≡ finished_sums p
  all = λ i.
      cond (eqb p.settings.format 0) (one Y i ∷ []) (one Y i ∷ one Cb i ∷ one Cr i ∷ [])

  -- the answer by the ledger's
  abbrev told : Verdict → List ℕ → Answer
  told v l = record { verdict = v; sums = cond (eqb v.number 0) l [] }

  answer : checksum_answer q ≡ record { verdict = acceptance; sums = finished_sums p }
  unfolding checksum_answer
  answer = λ i. told (outputs_checked p lent e i) (all i)

pub outputs_summed : OutputsSummed
outputs_summed p lent e = answer p lent e
