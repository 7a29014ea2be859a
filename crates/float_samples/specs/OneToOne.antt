-- What document 02's C-22 says of the floats that samples give, for a general depth, of luma and of chroma.
use Rattle.std.specs.Prelude.{◌≡◌, ℕ, ◌^◌, ◌<◌, Bool, true, pos, Float}
use Rattle.std.specs.Float.{nan, inf, fin}
use Rattle.float_samples.specs.Fraction.{F32}
use Rattle.float_samples.specs.Sample.{DepthOk, Gives, part_of}

pub record OneToOne (depth : ℕ) (chroma : Bool) : Type 0 where
  -- "Every quotient is exact at depths 8 to 16": the f32 nearest to a sample's fraction is that fraction
  pub exact : (s : ℕ) → s < 2 ^ depth → F32 (part_of depth chroma s) × Gives depth chroma s (part_of depth chroma s)
  -- and no other f32 is
  pub one_float : (s : ℕ) (x : Float) → F32 x → Gives depth chroma s x → x ≡ part_of depth chroma s
  -- two samples give two floats
  pub one_sample : (s t : ℕ) (x : Float) → Gives depth chroma s x → Gives depth chroma t x → s ≡ t
  -- "among them NaN, infinities and negative zero": no sample gives these
  pub no_nan : (s : ℕ) → Gives depth chroma s nan → ⊥
  pub no_infinity : (negative : Bool) (s : ℕ) → Gives depth chroma s (inf negative) → ⊥
  pub no_negative_zero : (s : ℕ) → Gives depth chroma s (fin true 0 (pos 0)) → ⊥

abbrev pub AllOneToOne : Type 0
AllOneToOne = (depth : ℕ) (chroma : Bool) → DepthOk depth → OneToOne depth chroma
