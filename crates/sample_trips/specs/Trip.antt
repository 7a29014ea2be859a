-- What the program shows of all samples of a depth: their floats' bit patterns as one number.
use Rattle.std.specs.Prelude.{ℕ, zero, suc, Bool}
use Rattle.std.specs.Float.{binary32}
use Rattle.std.specs.Float.Ieee.{to_bits}
use Rattle.fingerprint.specs.Fnv.{basis, step}
use Rattle.float_samples.specs.Sample.{part_of}

-- of the first n samples, in order
unfoldable pub patterns : ℕ → Bool → ℕ → ℕ
patterns depth chroma zero = basis
patterns depth chroma (suc n) = step (patterns depth chroma n) (to_bits binary32 (part_of depth chroma n))
