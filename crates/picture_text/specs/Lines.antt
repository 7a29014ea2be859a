-- The lines that the programs on stored pictures print. oracle/README.md has their layout.
use Rattle.std.specs.Prelude.{ℕ, ◌-◌, List, [], ◌∷◌, ◌++◌, length, replicate, codes, cond, decimal, false}
use Rattle.std.specs.Prelude.{Result, Ok, Err}
use Rattle.std.specs.Float.{binary32}
use Rattle.std.specs.Float.Ieee.{Float, is_nan, to_bits}
use Rattle.std.specs.Fmt.{digits}
use Rattle.checksum.specs.declared.Checksums.{Checksums}
use Rattle.checksum.specs.declared.Checksums.TheVariants.{One, Three}
use Rattle.fingerprint.specs.Fnv.{list_fingerprint}
use Rattle.ledger.specs.Numbered.{numbered, refused}
use Rattle.ledger.specs.declared.Refusal.{Refusal}
use Rattle.moves.specs.Farthest.{Farthest}
use Rattle.moves.specs.declared.Move.{Move}
use Rattle.picture.specs.Picture.{Planes}
use Rattle.picture_text.specs.declared.farthest.Moves.{Moves}
use Rattle.picture_text.specs.declared.words.Fingerprints.{Fingerprints}
use Rattle.recogniser.specs.declared.Pixel.{Pixel}
use Rattle.recogniser.specs.declared.Pixel.TheVariants.{Grey, Colour}
use Rattle.recogniser.specs.declared.PixelRefusal as Pixels
use Rattle.recogniser.specs.declared.PixelRefusal.TheVariants.{Outside}
use Rattle.recogniser.specs.declared.PixelRefusal.TheVariants as Refusals
use Rattle.recogniser.specs.declared.SampleRefusal.{SampleRefusal}
use Rattle.recogniser.specs.declared.SampleRefusal.TheVariants.{Depth, NoSample}

-- a number in so many hexadecimal digits
abbrev pub hex : ℕ → ℕ → List ℕ
hex n x = replicate (n - length (digits 16 false x)) 48 ++ digits 16 false x

abbrev pub space : List ℕ
space = codes " "

abbrev pub line_end : List ℕ
line_end = 10 ∷ []

-- of what is refused: its number, and the refusal's number and place
abbrev pub refused_line : ℕ → Refusal → List ℕ
refused_line number r =
    decimal number ++ space ++ decimal (refused r).number ++ space ++ decimal (refused r).place ++ line_end

unfoldable pub fingerprints_text : Fingerprints → List ℕ
fingerprints_text planes = hex 16 planes.y ++ space ++ hex 16 planes.cb ++ space ++ hex 16 planes.cr

-- those of a picture's planes
abbrev pub fingerprints_of : Planes → Fingerprints
fingerprints_of planes = record {
  y = list_fingerprint planes.y;
  cb = list_fingerprint planes.cb;
  cr = list_fingerprint planes.cr;
}

abbrev pub picture_line : ℕ → Result (Unit {0}) Refusal → Fingerprints → List ℕ
picture_line number v prints =
    decimal number ++ space ++ decimal (numbered v).number ++ space ++ decimal (numbered v).place ++ space
    ++ fingerprints_text prints ++ line_end

abbrev pub move_text : Move → List ℕ
move_text move = decimal move.distance ++ space ++ decimal move.place

abbrev pub moves_text : Moves → List ℕ
moves_text far = move_text far.y ++ space ++ move_text far.cb ++ space ++ move_text far.cr

-- from the samples of some planes to those of others
abbrev pub MovesOf : Planes → Planes → Moves → Type 0
MovesOf before after far =
    Farthest before.y after.y far.y × Farthest before.cb after.cb far.cb × Farthest before.cr after.cr far.cr

abbrev pub moves_line : ℕ → Result (Unit {0}) Refusal → Moves → List ℕ
moves_line number (Ok _) far = decimal number ++ codes " 0 0 " ++ moves_text far ++ line_end
moves_line number (Err r) far = refused_line number r

abbrev pub sum_line : ℕ → List ℕ
sum_line sum = hex 8 sum ++ line_end

abbrev pub sums_line : ℕ → Result Checksums Refusal → List ℕ
sums_line number (Ok (One y)) = decimal number ++ codes " 0 0 " ++ hex 8 y ++ line_end
sums_line number (Ok (Three y cb cr)) =
    decimal number ++ codes " 0 0 " ++ hex 8 y ++ space ++ hex 8 cb ++ space ++ hex 8 cr ++ line_end
sums_line number (Err r) = refused_line number r

-- the pattern of a float, and the quiet NaN's of each NaN
abbrev pub float_text : Float → List ℕ
float_text x = hex 8 (cond (is_nan x) 2143289344 (to_bits binary32 x))

abbrev pub pixel_line : ℕ → Result Pixel Pixels.PixelRefusal → List ℕ
pixel_line number (Ok (Grey luma)) = decimal number ++ codes " 0 0 " ++ float_text luma ++ line_end
pixel_line number (Ok (Colour parts)) =
    decimal number ++ codes " 0 0 " ++ float_text parts.luma ++ space ++ float_text parts.cb ++ space
    ++ float_text parts.cr ++ line_end
pixel_line number (Err (Refusals.Planes r)) = refused_line number r
pixel_line number (Err Outside) = decimal number ++ codes " 14 0" ++ line_end

abbrev pub recovered_line : ℕ → Result ℕ SampleRefusal → List ℕ
recovered_line number (Ok sample) = decimal number ++ codes " 0 0 " ++ decimal sample ++ line_end
recovered_line number (Err Depth) = decimal number ++ codes " 3 0" ++ line_end
recovered_line number (Err NoSample) = decimal number ++ codes " 15 0" ++ line_end
