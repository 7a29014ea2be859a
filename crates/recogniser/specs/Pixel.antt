-- What document 02's C-22 answers to a pixel of "finished planes", which are the given ones here.
use Rattle.std.specs.Prelude.{ℕ, ◌≡◌, Bool, true, false, cond, List, [], ◌∷◌, ◌++◌, eqb, leb, Float, Result, Ok, Err}
use Rattle.picture.specs.Causes.{planes_ledger}
use Rattle.picture.specs.Ledger.{Entry, Verdict, acceptance, entry, first_of, once}
use Rattle.picture.specs.Picture.{Picture, across, depth_of, down, original}
use Rattle.picture.specs.Scale.{Component, Y, Cb, Cr}
use Rattle.ledger.specs.Numbered.{refusal, refused}
use Rattle.float_samples.specs.Fraction.{Exactly, Fraction}
use Rattle.float_samples.specs.Sample.{fraction_of}
use Rattle.recogniser.specs.declared.Pixel.TheVariants.{Colour, Grey}
use Rattle.recogniser.specs.declared.Pixel.{Pixel}
use Rattle.recogniser.specs.declared.PixelRefusal.TheVariants.{Outside, Planes}
use Rattle.recogniser.specs.declared.PixelRefusal.{PixelRefusal}

-- ---- the parts

-- the sample of a plane at "the position under the pixel": column and row divided by the format's scales, rounded down
abbrev pub under : Picture → Component → ℕ → ℕ → ℕ
under p c column row = original p c (across p.settings c column) (down p.settings c row)

abbrev pub is_chroma : Component → Bool
is_chroma Y = false
is_chroma Cb = true
is_chroma Cr = true

-- "Luma is the sample over 2^depth; chroma, from the position under the pixel, the sample less 2^(depth − 1), over
-- 2^depth."
abbrev pub part_at : Picture → ℕ → ℕ → Component → Fraction
part_at p column row c = fraction_of (depth_of p.settings c) (is_chroma c) (under p c column row)

-- "grey (monochrome sheets) or colour with three parts"
abbrev pub grey_or_colour : Bool → (Component → Fraction) → List Fraction
grey_or_colour monochrome part = cond monochrome (part Y ∷ []) (part Y ∷ part Cb ∷ part Cr ∷ [])

abbrev pub is_monochrome : Picture → Bool
is_monochrome p = eqb p.settings.format 0

abbrev pub pixel_parts : Picture → ℕ → ℕ → List Fraction
pixel_parts p column row = grey_or_colour (is_monochrome p) (part_at p column row)

-- ---- the checks

-- "14 where it lies outside the sheet"
abbrev pub outside : Picture → ℕ → ℕ → List Bool
outside p column row = leb p.width column ∷ leb p.height row ∷ []

-- "Checks: for a pixel, those of C-11 and then new 14"; "14 and 15 have place 0"
abbrev pub cause14 : Picture → ℕ → ℕ → List Entry
cause14 p column row = entry 14 (once (outside p column row)) ∷ []

abbrev pub pixel_ledger : Picture → ℕ → ℕ → List Entry
pixel_ledger p column row = planes_ledger p ++ cause14 p column row

-- ---- the answer: a number with its place, and the parts; a refusal has none

pub record Answer : Type 0 where
  pub verdict : Verdict
  pub parts : List Fraction

-- of a pixel that passes the checks
abbrev pub accepted : Picture → ℕ → ℕ → Answer
accepted p column row = record { verdict = acceptance; parts = pixel_parts p column row }

unfoldable pub pixel_answer : Picture → ℕ → ℕ → Answer
pixel_answer p column row =
    let v = first_of (pixel_ledger p column row) in
    record { verdict = v; parts = cond (eqb v.number 0) (pixel_parts p column row) [] }

-- the paper's number and place, and the floats, for every case of the enums
abbrev pub verdict_of : Result Pixel PixelRefusal → Verdict
verdict_of (Err (Planes r)) = refused r
verdict_of (Err Outside) = refusal 14 0
verdict_of (Ok (Grey luma)) = acceptance
verdict_of (Ok (Colour c)) = acceptance

abbrev pub floats_of : Result Pixel PixelRefusal → List Float
floats_of (Err (Planes r)) = []
floats_of (Err Outside) = []
floats_of (Ok (Grey luma)) = luma ∷ []
floats_of (Ok (Colour c)) = c.luma ∷ c.cb ∷ c.cr ∷ []

-- as many floats as fractions, and each is exactly its fraction
abbrev pub AllExactly : List Float → List Fraction → Type 0
AllExactly [] [] = Unit {0}
AllExactly [] (f ∷ fs) = ⊥
AllExactly (x ∷ xs) [] = ⊥
AllExactly (x ∷ xs) (f ∷ fs) = Exactly x f.n f.depth × AllExactly xs fs

pub record Answered (r : Result Pixel PixelRefusal) (a : Answer) : Type 0 where
  pub verdict_is : verdict_of r ≡ a.verdict
  pub parts_are : AllExactly (floats_of r) a.parts
