-- The picture checksum of H.265, Annex D (decoded picture hash), of one plane, in the words of document 02, C-11.
use Rattle.std.specs.Prelude.{ℕ, ◌+◌, ◌/◌, ◌%◌, ◌^◌, cond, bit_xor, nat_lt}
use Rattle.ints.specs.Sum.{sum}
use Rattle.picture.specs.Plane.{Plane}

-- "For each sample, mask = (column low byte) xor (row low byte) xor (column >> 8) xor (row >> 8)"
abbrev pub mask : ℕ → ℕ → ℕ
mask x y = bit_xor (bit_xor (bit_xor (x % 2 ^ 8) (y % 2 ^ 8)) (x / 2 ^ 8)) (y / 2 ^ 8)

-- "the sample's low byte xor mask joins the sum; above depth 8 its high part xor mask joins too"
abbrev pub joining : ℕ → ℕ → ℕ → ℕ
joining depth sample m = bit_xor (sample % 2 ^ 8) m + cond (nat_lt 8 depth) (bit_xor (sample / 2 ^ 8) m) 0

-- the exact sum over the samples of a plane
unfoldable pub exact_sum : ℕ → ℕ → ℕ → Plane → ℕ
exact_sum depth width height P = sum height (λ y. sum width (λ x. joining depth (P x y) (mask x y)))

-- "The running sum starts at 0 and is kept modulo 2^32 on purpose."
unfoldable pub checksum : ℕ → ℕ → ℕ → Plane → ℕ
checksum depth width height P = exact_sum depth width height P % 2 ^ 32
