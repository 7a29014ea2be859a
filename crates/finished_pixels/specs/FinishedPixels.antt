-- Document 02, C-22: "Ask for a pixel of finished planes". `verdict` and `outputs` are the answer and the planes that
-- the stage's contract names, `pixel_answer` is what the contract of a pixel names: what is said of them here is said
-- of a call of the one and then of the other.
use Rattle.std.specs.Prelude.{ℕ, ◌<◌, ◌≡◌, List}
use Rattle.filter.specs.Finished.{finished_plane, outputs}
use Rattle.float_samples.specs.Fraction.{Fraction}
use Rattle.float_samples.specs.Sample.{fraction_of}
use Rattle.picture.specs.Causes.{verdict}
use Rattle.picture.specs.Ledger.{acceptance}
use Rattle.picture.specs.Picture.{Picture, Planes, across, depth_of, down, with_planes}
use Rattle.picture.specs.Scale.{Component}
use Rattle.recogniser.specs.Pixel.{grey_or_colour, is_chroma, is_monochrome, pixel_answer}

-- the fraction of the sample under the pixel, as clause 8.7.2 leaves it
abbrev pub finished_part : Picture → ℕ → ℕ → Component → Fraction
finished_part p column row c =
    fraction_of (depth_of p.settings c) (is_chroma c)
    (finished_plane p c (across p.settings c column) (down p.settings c row))

-- "grey (monochrome sheets) or colour with three parts"
abbrev pub finished_parts : Picture → ℕ → ℕ → List Fraction
finished_parts p column row = grey_or_colour (is_monochrome p) (finished_part p column row)

-- of every accepted picture, every pixel of what the stage leaves is given, and its parts are those
abbrev pub FinishedPixels : Type 0
FinishedPixels = (p : Picture) (lent : Planes) → verdict p lent ≡ acceptance
    → (column row : ℕ) → column < p.width → row < p.height
    → pixel_answer (with_planes (outputs p lent) p) column row
    ≡ record { verdict = acceptance; parts = finished_parts p column row }
