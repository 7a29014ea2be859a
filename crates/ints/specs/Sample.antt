-- Samples: the largest of a depth, and how far two are apart.
use Rattle.std.specs.Prelude.{ℕ, ◌+◌, ◌-◌, ◌^◌}

-- Document 01: "Luma and chroma depth, each 8 to 16. Largest sample: 2^depth − 1."
abbrev pub largest_at : ℕ → ℕ
largest_at depth = 2 ^ depth - 1

-- Abs(a - b) in naturals, where one of the two differences is 0
abbrev pub distance : ℕ → ℕ → ℕ
distance a b = (a - b) + (b - a)
