-- The numbers of a stored record, "little endian": of its bytes the low one comes first. oracle/README.md has the
-- layout.
use Rattle.std.specs.Prelude.{ℕ, ◌+◌, ◌*◌, ◌^◌, cond, List, [], ◌∷◌, ltb, ℤ, pos, take, drop}
use Rattle.ints.specs.Int.{◌⊖◌}
use Rattle.picture.specs.Plane.{tabulate}

-- the number of some bytes, low byte first
abbrev pub joined : List ℕ → ℕ
joined [] = 0
joined (byte ∷ r) = byte + 256 * joined r

-- number k of a list of numbers of `size` bytes each
unfoldable pub number_at : ℕ → List ℕ → ℕ → ℕ
number_at size bytes k = joined (take size (drop (size * k) bytes))

-- a word of 32 bits, and a number of 16
abbrev pub word_at : List ℕ → ℕ → ℕ
word_at bytes k = number_at 4 bytes k

abbrev pub half_at : List ℕ → ℕ → ℕ
half_at bytes k = number_at 2 bytes k

-- the first n numbers of 16 bits
abbrev pub halves : List ℕ → ℕ → List ℕ
halves bytes n = tabulate n (half_at bytes)

-- the signed number of a word: two's complement
unfoldable pub signed_of : ℕ → ℤ
signed_of w = cond (ltb w (2 ^ 31)) (pos w) (w ⊖ (2 ^ 32))
