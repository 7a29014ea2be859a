-- A few floats by their bit patterns, worked out by antt.
use Rattle.std.proofs.Common.{true, false, refl, lit<}
use lib.Ieee.{binary32, of_bits}
use Rattle.ints.specs.Int.{◌⊖◌}
use Rattle.float_samples.specs.Fraction.{Exactly}
use Rattle.float_samples.specs.Sample.{Gives, numerator}

-- 128 of 256 is 0.5
half : Gives 8 false 128 (of_bits binary32 0x3f00_0000)
unfolding Exactly numerator ◌⊖◌ of_bits
half = record { range = lit< tt; exact = (refl, refl) }

-- 1023 of 1024 is 0.9990234375
last : Gives 10 false 1023 (of_bits binary32 0x3f7f_c000)
unfolding Exactly numerator ◌⊖◌ of_bits
last = record { range = lit< tt; exact = (refl, refl) }

-- chroma 0 is -0.5, the middle 0.0, and one below it at depth 16 is -2 ^ -16
lowest : Gives 8 true 0 (of_bits binary32 0xbf00_0000)
unfolding Exactly numerator ◌⊖◌ of_bits
lowest = record { range = lit< tt; exact = (refl, refl) }

middle : Gives 16 true 32768 (of_bits binary32 0)
unfolding Exactly numerator ◌⊖◌ of_bits
middle = record { range = lit< tt; exact = (refl, refl) }

one_below : Gives 16 true 32767 (of_bits binary32 0xb780_0000)
unfolding Exactly numerator ◌⊖◌ of_bits
one_below = record { range = lit< tt; exact = (refl, refl) }
