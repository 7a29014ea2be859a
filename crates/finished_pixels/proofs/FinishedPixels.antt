-- The finished planes of an accepted picture pass the checks, and the samples under a pixel are the finished ones.
use Prim.Native.Nat.{ℕ, ◌<◌}
use mathlib.Core.Path.{◌≡◌, refl, sym, ap, ◌∙◌}
use mathlib.Core.Bool.{Bool, true, false, cond}
use mathlib.Core.List.{List, [], ◌∷◌}
use native.Mathlib.Omega.{arith}
use borrow.Author.Tests.{eqb-false, lt-leb}
use lib.Dec.{eqb}
use Rattle.bounded_moves.proofs.Checked.{outputs_checked}
use Rattle.filter.specs.Finished.{outputs}
use Rattle.filter.proofs.Outputs.{finished_at, outputs_finished}
use Rattle.float_samples.specs.Fraction.{Fraction}
use Rattle.float_samples.specs.Sample.{fraction_of}
use Rattle.picture.specs.Causes.{planes_ledger, verdict}
use Rattle.picture.specs.Ledger.{Verdict, acceptance, first_of}
use Rattle.picture.specs.Picture.{Picture, Planes, across, depth_of, down, plane_height, plane_of, plane_width}
use Rattle.picture.specs.Picture.{with_planes}
use Rattle.picture.specs.Plane.{at}
use Rattle.picture.specs.Scale.{Component, Y, Cb, Cr, chroma_across, chroma_down}
use Rattle.picture.proofs.Accepted.{accepted_by}
use Rattle.picture.proofs.Ledger.{good_out, none_in}
use Rattle.picture.proofs.Scale.{from_luma_less, present_across, present_down}
use Rattle.ledger.proofs.Answers.{all_left, answers, goes_on, goes_past_all}
use Rattle.recogniser.specs.Pixel.{Answer, cause14, grey_or_colour, is_chroma, is_monochrome, outside, part_at}
use Rattle.recogniser.specs.Pixel.{pixel_answer, pixel_ledger, pixel_parts}
use Rattle.finished_pixels.specs.FinishedPixels.{FinishedPixels, finished_part, finished_parts}

module _ (p : Picture) (lent : Planes) (e : verdict p lent ≡ acceptance) (column row : ℕ) (x : column < p.width)
    (y : row < p.height) where
  -- the picture that is asked for a pixel
  abbrev q : Picture
  q = with_planes (outputs p lent) p

  abbrev tests : List Bool
  tests = outside q column row

  -- the planes pass their checks, and the pixel is inside
  checked : acceptance ≡ first_of (pixel_ledger q column row)
  checked =
      let planes =
      good_out (planes_ledger q) (omega arith) (ap (λ (v : Verdict). v.number) (outputs_checked p lent e)) in
      let past = goes_past_all (planes_ledger q) (cause14 q column row) planes (all_left (pixel_ledger q column row)) in
      let inside = none_in tests (lt-leb p.width column x, (lt-leb p.height row y, tt)) in
      answers (goes_on tests refl past inside) refl

  -- the sample under the pixel is the finished one
  part : (c : Component) → across p.settings c column < plane_width p c → down p.settings c row < plane_height p c
      → part_at q column row c ≡ finished_part p column row c
  part c hx hy =
      let at_x = across p.settings c column in
      let at_y = down p.settings c row in
      ap (fraction_of (depth_of p.settings c) (is_chroma c))
      (ap (λ (planes : Planes). at (plane_of planes c) (plane_width p c) at_x at_y) (outputs_finished p lent e)
      ∙ finished_at p c at_x at_y hx hy)

  -- chroma has a sample under each pixel where the format has chroma
  module _ (some : p.settings.format ≡ 0 → ⊥) where
    across_in : across p.settings Cb column < plane_width p Cb
    across_in =
        let f = p.settings.format in
        from_luma_less (chroma_across f) (present_across f some) x (accepted_by p lent e).picture.width.eights

    down_in : down p.settings Cb row < plane_height p Cb
    down_in =
        let f = p.settings.format in
        from_luma_less (chroma_down f) (present_down f some) y (accepted_by p lent e).picture.height.eights

  parts : pixel_parts q column row ≡ finished_parts p column row
  parts = go (is_monochrome p) (eqb-false p.settings.format 0)
    where
      one : part_at q column row Y ≡ finished_part p column row Y
      one = part Y x y

      go : (mono : Bool) → (mono ≡ false → p.settings.format ≡ 0 → ⊥)
          → grey_or_colour mono (part_at q column row) ≡ grey_or_colour mono (finished_part p column row)
      go true none = λ i. one i ∷ []
      go false none =
          let some = none refl in
          let cb = part Cb (across_in some) (down_in some) in
          let cr = part Cr (across_in some) (down_in some) in
          λ i. one i ∷ cb i ∷ cr i ∷ []

  -- the answer by the ledger's
  abbrev told : Verdict → List Fraction → Answer
  told v l = record { verdict = v; parts = cond (eqb v.number 0) l [] }

  answer : pixel_answer q column row ≡ record { verdict = acceptance; parts = finished_parts p column row }
  unfolding pixel_answer
  answer = λ i. told (sym checked i) (parts i)

pub finished_pixels : FinishedPixels
finished_pixels p lent e column row x y = answer p lent e column row x y
