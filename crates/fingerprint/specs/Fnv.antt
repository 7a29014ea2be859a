-- FNV-1a of 64 bits, with a sample or another number in place of a byte: "hash = offset_basis; for each octet_of_data
-- to be hashed: hash = hash xor octet_of_data; hash = hash * FNV_prime", modulo 2^64.
use Rattle.std.specs.Prelude.{ℕ, ◌*◌, ◌%◌, ◌^◌, cond, List, [], ◌∷◌, take, drop, bit_xor}
use Rattle.plane_view.specs.View.{is_plane}

abbrev pub basis : ℕ
basis = 14695981039346656037

-- 2^40 + 2^8 + 0xb3
abbrev pub prime : ℕ
prime = 1099511628211

-- the hash h with one more number
unfoldable pub step : ℕ → ℕ → ℕ
step h n = (bit_xor h n * prime) % 2 ^ 64

-- with samples, in order
abbrev pub with_samples : ℕ → List ℕ → ℕ
with_samples h [] = h
with_samples h (sample ∷ r) = with_samples (step h sample) r

-- of a list: of all its samples
unfoldable pub list_fingerprint : List ℕ → ℕ
list_fingerprint list = with_samples basis list

-- the samples of a plane of this size, row by row; a list that is no plane of it shows none
unfoldable pub shown : List ℕ → ℕ → ℕ → List ℕ
shown list width height = cond (is_plane list width height) list []

-- and those of its row y
unfoldable pub row_shown : List ℕ → ℕ → ℕ → ℕ → List ℕ
row_shown list width height y = take width (drop (y * width) (shown list width height))

-- of a plane
unfoldable pub plane_fingerprint : List ℕ → ℕ → ℕ → ℕ
plane_fingerprint list width height = list_fingerprint (shown list width height)
