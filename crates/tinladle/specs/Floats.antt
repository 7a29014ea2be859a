-- What `tinladle_pixel` and `tinladle_sample` answer and leave (document 02, C-22).
use Rattle.std.specs.Prelude.{ℕ, ◌≡◌, Bool, List, ◌++◌, Float, drop, get_or, length}
use Rattle.picture.specs.Picture.{Picture}
use Rattle.ledger.specs.Numbered.{refusal}
use Rattle.recogniser.specs.Pixel.{AllExactly, pixel_answer}
use Rattle.recogniser.specs.WayBack.{WayBack}

-- the number and the place of a pixel, and in the three lent places floats that are exactly its parts: where there is
-- one part, or none, the others are as they were
pub record PixelStored (p : Picture) (column row : ℕ) (lent : List Float) (number place : ℕ) (left : List Float) :
    Type 0 where
  pub number_is : number ≡ (pixel_answer p column row).verdict.number
  pub place_is : place ≡ (pixel_answer p column row).verdict.place
  pub floats : List Float
  pub exact : AllExactly floats (pixel_answer p column row).parts
  pub left_is : left ≡ floats ++ drop (length floats) lent

-- the number and the place of a float, and in the lent place its sample, or what it held
pub record SampleStored (depth : ℕ) (chroma : Bool) (value : Float) (lent number place left : ℕ) : Type 0 where
  pub samples : List ℕ
  pub answer : WayBack depth chroma value record { verdict = refusal number place; samples = samples }
  pub left_is : left ≡ get_or samples 0 lent
