-- That the answer means what it should: it goes by the planes, their sizes, format and depths alone; and small pixels
-- worked out by hand.
use Prim.Native.Nat.{ℕ}
use mathlib.Core.Path.{◌≡◌, refl}
use mathlib.Core.List.{[], ◌∷◌}
use lib.IntN.{negsuc, pos}
use Rattle.ints.specs.Int.{◌⊖◌}
use Rattle.picture.specs.Given.{alone, planes_of}
use Rattle.picture.specs.Ledger.{acceptance}
use Rattle.picture.specs.Picture.{Picture, Planes, Settings}
use Rattle.picture.specs.Plane.{at, tabulate}
use Rattle.ledger.specs.Numbered.{refusal}
use Rattle.float_samples.specs.Sample.{numerator}
use Rattle.recogniser.specs.Pixel.{pixel_answer}

-- every picture is answered as its planes alone
pub planes_alone : (p : Picture) (column row : ℕ) →
    let t : Settings = p.settings in
    pixel_answer p column row
    ≡ pixel_answer (alone p.width p.height t.format t.luma_depth t.chroma_depth p.originals) column row
unfolding pixel_answer
planes_alone p column row = refl

-- 8 by 8 in which each sample is its own place; chroma of depth 10, so that its middle is 512
abbrev counted : ℕ → ℕ → Planes
counted cb cr = planes_of (tabulate 64 (λ k. k)) (tabulate cb (λ k. k)) (tabulate cr (λ k. k))

-- in 4:2:0 the pixel in column 3 of row 5 is luma sample 43, and lies over chroma sample 9, column 1 of row 2
pub over_chroma : pixel_answer (alone 8 8 1 8 10 (counted 16 16)) 3 5 ≡ record {
  verdict = acceptance;
  parts =
      record { n = pos 43; depth = 8 }
      ∷ record { n = negsuc 502; depth = 10 }
      ∷ record { n = negsuc 502; depth = 10 }
      ∷ [];
}
unfolding pixel_answer at numerator ◌⊖◌
over_chroma = refl

-- in 4:2:2 over sample 21, column 1 of row 5
pub over_4_2_2 : (pixel_answer (alone 8 8 2 8 10 (counted 32 32)) 3 5).parts
    ≡ record { n = pos 43; depth = 8 }
    ∷ record { n = negsuc 490; depth = 10 }
    ∷ record { n = negsuc 490; depth = 10 }
    ∷ []
unfolding pixel_answer at numerator ◌⊖◌
over_4_2_2 = refl

-- grey, and one past the right and the bottom
pub grey_alone : pixel_answer (alone 8 8 0 8 10 (counted 0 0)) 7 7 ≡ record {
  verdict = acceptance;
  parts = record { n = pos 63; depth = 8 } ∷ [];
}
unfolding pixel_answer at numerator
grey_alone = refl

pub past_the_right : pixel_answer (alone 8 8 0 8 10 (counted 0 0)) 8 7 ≡ record { verdict = refusal 14 0; parts = [] }
unfolding pixel_answer
past_the_right = refl

pub past_the_bottom : pixel_answer (alone 8 8 0 8 10 (counted 0 0)) 7 8 ≡ record { verdict = refusal 14 0; parts = [] }
unfolding pixel_answer
past_the_bottom = refl

-- a depth out of range comes before the pixel
pub depth_first : pixel_answer (alone 8 8 0 8 17 (counted 0 0)) 8 7 ≡ record { verdict = refusal 3 0; parts = [] }
unfolding pixel_answer
depth_first = refl
