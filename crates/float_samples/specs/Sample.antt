-- Document 02, C-22: "Luma is the sample over 2^depth; chroma .. the sample less 2^(depth − 1), over 2^depth."
use Rattle.std.specs.Prelude.{ℕ, ◌-◌, ◌^◌, ◌<◌, ◌≤◌, Bool, true, false, ℤ, pos, unsigned_abs, Float}
use Rattle.std.specs.Float.{binary32}
use Rattle.std.specs.Float.Ieee.{round}
use Rattle.ints.specs.Int.{◌⊖◌}
use Rattle.float_samples.specs.Fraction.{Exactly, Fraction, is_negative}

-- "at depths 8 to 16"
pub record DepthOk (depth : ℕ) : Type 0 where
  pub least : 8 ≤ depth
  pub most : depth ≤ 16

-- what stands over 2^depth: of luma the sample, of chroma (true) the sample less 2^(depth - 1)
unfoldable pub numerator : ℕ → Bool → ℕ → ℤ
numerator depth false sample = pos sample
numerator depth true sample = sample ⊖ 2 ^ (depth - 1)

-- the fraction that a sample stands for
abbrev pub fraction_of : ℕ → Bool → ℕ → Fraction
fraction_of depth chroma sample = record { n = numerator depth chroma sample; depth = depth }

-- the sample, in its range, gives the float x: x is exactly its fraction
pub record Gives (depth : ℕ) (chroma : Bool) (sample : ℕ) (x : Float) : Type 0 where
  pub range : sample < 2 ^ depth
  pub exact : Exactly x (numerator depth chroma sample) depth

-- the float as a function of the sample: the f32 nearest to the fraction, which is the fraction itself (`exact` in
-- OneToOne)
unfoldable pub part_of : ℕ → Bool → ℕ → Float
part_of depth chroma sample =
    let n = numerator depth chroma sample in
    round binary32 (is_negative n) (unsigned_abs n) (2 ^ depth)
