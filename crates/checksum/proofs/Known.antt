-- That the answer means what it should: it goes by the planes, their sizes, format and depths alone; document 02's
-- figure; and small planes worked out by hand.
use Rattle.std.proofs.Common.{◌≡◌, [], ◌∷◌, replicate, refl}
use Rattle.picture.specs.Given.{alone, planes_of}
use Rattle.picture.specs.Ledger.{acceptance}
use Rattle.picture.specs.Picture.{Picture, Settings}
use Rattle.picture.specs.Plane.{at}
use Rattle.checksum.specs.Answer.{checksum_answer}
use Rattle.checksum.specs.Checksum.{checksum, exact_sum, mask}

-- every picture is answered as its planes alone
pub planes_alone : (p : Picture) →
    let t : Settings = p.settings in
    checksum_answer p
    ≡ checksum_answer (alone p.width p.height t.format t.luma_depth t.chroma_depth p.originals)
unfolding checksum_answer
planes_alone p = refl

-- "A program with a built-in 8 by 8 sheet of zeros, depth 8, 4:2:0, prints one line a plane: 000000e0, 00000018,
-- 00000018."
pub zeros : checksum_answer (alone 8 8 1 8 8 (planes_of (replicate 64 0) (replicate 16 0) (replicate 16 0)))
    ≡ record { verdict = acceptance; sums = 0xe0 ∷ 0x18 ∷ 0x18 ∷ [] }
unfolding checksum_answer checksum exact_sum at
zeros = refl

-- the mask's low and high bytes, at their ends
pub masks : (mask 255 0 ∷ mask 256 0 ∷ mask 257 1 ∷ mask 0 8191 ∷ mask 8191 8191 ∷ [])
    ≡ 255 ∷ 1 ∷ 1 ∷ 224 ∷ 0 ∷ []
masks = refl

-- 0x1234 and 0x00ff side by side: 0x34 + (0xff xor 1) at depth 8, and 0x12 + 1 more above it
pub low_bytes : checksum 8 2 1 (at (0x1234 ∷ 0xff ∷ []) 2) ≡ 0x132
unfolding checksum exact_sum at
low_bytes = refl

pub high_parts : checksum 9 2 1 (at (0x1234 ∷ 0xff ∷ []) 2) ≡ 0x145
unfolding checksum exact_sum at
high_parts = refl
