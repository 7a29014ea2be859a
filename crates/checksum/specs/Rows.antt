-- The sum of a plane row by row, in the form in which the code adds: a row's share of the mask is worked out once, and
-- low bytes and high parts are added one after the other. proofs/Rows.antt shows that the rows are those of exact_sum.
use Rattle.std.specs.Prelude.{ℕ, ◌+◌, ◌/◌, ◌%◌, ◌^◌, Bool, cond, List, bit_xor, slice_index}
use Rattle.ints.specs.Sum.{sum}
use Rattle.picture.specs.Picture.{Picture, plane_height, plane_width}
use Rattle.picture.specs.Plane.{Plane, at}
use Rattle.picture.specs.Scale.{Cb}
use Rattle.checksum.specs.Checksum.{checksum, joining, mask}

-- what a column, or a row, brings to the mask
abbrev pub fold : ℕ → ℕ
fold n = bit_xor (n % 2 ^ 8) (n / 2 ^ 8)

-- the high part of a sample, or its low byte
abbrev pub part : Bool → ℕ → ℕ
part high sample = cond high (sample / 2 ^ 8) (sample % 2 ^ 8)

-- the masked parts of `width` samples from `start` on
unfoldable pub parts_sum : Bool → List ℕ → ℕ → ℕ → ℕ → ℕ
parts_sum high plane start width row =
    sum width (λ x. bit_xor (part high (slice_index plane (start + x))) (bit_xor (fold x) row))

-- all that joins of row y
unfoldable pub row_sum : ℕ → Plane → ℕ → ℕ → ℕ
row_sum depth P width y = sum width (λ x. joining depth (P x y) (mask x y))

-- of a chroma plane, by the settings of its picture (`chroma_sums`, proofs/Answers: of Cb and of Cr it is plane_sum)
abbrev pub chroma_sum : Picture → List ℕ → ℕ
chroma_sum p plane =
    checksum p.settings.chroma_depth (plane_width p Cb) (plane_height p Cb) (at plane (plane_width p Cb))
