-- What is answered to a pixel and to a float, by what was found.
use Prim.Native.Nat.{ℕ, ◌<◌}
use mathlib.Core.Path.{◌≡◌, refl, sym, ap, ◌∙◌, subst}
use mathlib.Core.Bool.{Bool, true, false, cond}
use mathlib.Core.List.{[]}
use native.Mathlib.Omega.{arith}
use borrow.Author.Tests.{eq-eqb, ne_eqb}
use lib.Dec.{eqb}
use lib.Ieee.{Float}
use Rattle.picture.specs.Causes.{bad_depth}
use Rattle.picture.specs.Ledger.{Verdict, acceptance, first_of}
use Rattle.picture.specs.Picture.{Picture}
use Rattle.picture.specs.Scale.{Y, Cb, Cr}
use Rattle.picture.proofs.Ledger.{none_in, none_out, to_fact, to_test}
use Rattle.std.proofs.lemmas.Option.{none-some}
use Rattle.std.specs.Prelude.{Option, None, Some, Result, Ok}
use Rattle.float_samples.specs.Found.{Finds}
use Rattle.float_samples.specs.Sample.{DepthOk, Gives}
use Rattle.float_samples.specs.declared.Colour as Declared
use Rattle.recogniser.specs.declared.Pixel.{Pixel}
use Rattle.recogniser.specs.declared.Pixel.TheVariants.{Colour, Grey}
use Rattle.recogniser.specs.declared.PixelRefusal.{PixelRefusal}
use Rattle.recogniser.specs.Pixel.{AllExactly, Answer, Answered, accepted, floats_of, pixel_answer, pixel_ledger}
use Rattle.recogniser.specs.Pixel.{grey_or_colour, is_monochrome, part_at, pixel_parts, under, verdict_of}
use Rattle.recogniser.specs.WayBack.{WayBack, answer_of, is_bad, no_sample, the_sample}
use Rattle.recogniser.specs.declared.SampleRefusal.TheVariants.{NoSample}
use Rattle.std.specs.Option.{ok_or}

-- ---- a pixel

module _ (p : Picture) (column row : ℕ) where
  -- the answer by the ledger's
  abbrev told : Verdict → Answer
  told v = record { verdict = v; parts = cond (eqb v.number 0) (pixel_parts p column row) [] }

  -- a refusal has no part
  pub without_parts : (r : Result Pixel PixelRefusal) → verdict_of r ≡ first_of (pixel_ledger p column row) → 0 < (verdict_of r).number
      → AllExactly (floats_of r) [] → Answered r (pixel_answer p column row)
  unfolding pixel_answer
  without_parts r e h none =
      let v = verdict_of r in
      let no_part : told v ≡ record { verdict = v; parts = [] } = rw (ne_eqb v.number 0 (omega arith)) in
      subst (Answered r) (sym no_part ∙ ap told e) (record { verdict_is = refl; parts_are = none })

  pub with_parts : (r : Result Pixel PixelRefusal) → acceptance ≡ first_of (pixel_ledger p column row) → Answered r (accepted p column row)
      → Answered r (pixel_answer p column row)
  unfolding pixel_answer
  with_parts r e a = subst (Answered r) (ap told e) a

  -- grey of a monochrome picture, else colour
  answered : (r : Result Pixel PixelRefusal) → verdict_of r ≡ acceptance → (mono : Bool) → is_monochrome p ≡ mono
      → AllExactly (floats_of r) (grey_or_colour mono (part_at p column row)) → Answered r (accepted p column row)
  answered r v mono e parts = record {
    verdict_is = v;
    parts_are = subst (λ (b : Bool). AllExactly (floats_of r) (grey_or_colour b (part_at p column row))) (sym e) parts;
  }

  pub grey : p.settings.format ≡ 0 → {x : Float} → Gives p.settings.luma_depth false (under p Y column row) x
      → Answered (Ok (Grey x)) (accepted p column row)
  grey mono {x} g = answered (Ok (Grey x)) refl true (eq-eqb p.settings.format 0 mono) (g.exact, tt)

  pub colour : (p.settings.format ≡ 0 → ⊥) → {c : Declared.Colour}
      → Gives p.settings.luma_depth false (under p Y column row) c.luma
      → Gives p.settings.chroma_depth true (under p Cb column row) c.cb
      → Gives p.settings.chroma_depth true (under p Cr column row) c.cr
      → Answered (Ok (Colour c)) (accepted p column row)
  colour some {c} y cb cr =
      answered (Ok (Colour c)) refl false (ne_eqb p.settings.format 0 some)
      (y.exact, (cb.exact, (cr.exact, tt)))

-- ---- a float

-- what cause 3 says of a depth is what float_samples asks of it
pub depth_good : (depth : ℕ) → is_bad depth ≡ false → DepthOk depth
depth_good depth e = let h = none_out (bad_depth depth) e in search to_fact depth 1

pub depth_not_bad : (depth : ℕ) → DepthOk depth → is_bad depth ≡ false
depth_not_bad depth ok = none_in (bad_depth depth) (search to_test depth 1)

-- the sample that was found, or that none was
pub by_found : (depth : ℕ) (chroma : Bool) (x : Float) (r : Option ℕ) → is_bad depth ≡ false → Finds depth chroma x r
    → WayBack depth chroma x (answer_of (ok_or r NoSample))
by_found depth chroma x None ok f = no_sample ok (λ s g. none-some s (f.every s g)) refl
by_found depth chroma x (Some s) ok f = the_sample ok s (f.only s refl) refl
