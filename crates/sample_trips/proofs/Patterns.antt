-- The floats of a depth, sample by sample.
use Prim.Native.Nat.{ℕ, suc, ◌-◌, ◌^◌, ◌≤◌, ◌<◌}
use mathlib.Core.Path.{◌≡◌, refl, ap, ◌∙◌}
use mathlib.Core.Bool.{Bool, cond}
use native.Mathlib.Omega.{arith}
use lib.Ieee.{Float, binary32, is_nan, to_bits}
use lib.Ieee.Bits.{cond_no}
use lib.Pow.{pow_pos}
use Rattle.fingerprint.specs.Fnv.{basis, step}
use Rattle.float_samples.specs.Fraction.{F32}
use Rattle.float_samples.specs.Sample.{DepthOk, Gives, numerator, part_of}
use Rattle.float_samples.proofs.Exact.{exact_is_number}
use Rattle.float_samples.proofs.OneToOne.{all_one_to_one}
use Rattle.sample_trips.specs.Trip.{patterns}

-- a sample up to the largest one is below 2^depth
pub in_range : (d s : ℕ) → s ≤ 2 ^ d - 1 → s < 2 ^ d
in_range d s h = go (2 ^ d) (pow_pos d) h
  where
    go : (p : ℕ) → 0 < p → s ≤ p - 1 → s < p
    go p h k = omega arith

pub past : (d s : ℕ) → s ≤ 2 ^ d → 2 ^ d - 1 < s → s ≡ 2 ^ d
past d s = go (2 ^ d) (pow_pos d)
  where
    go : (p : ℕ) → 0 < p → s ≤ p → p - 1 < s → s ≡ p
    go p h k l = omega arith

module _ (d : ℕ) (chroma : Bool) where
  pub none : basis ≡ patterns d chroma 0
  unfolding patterns
  none = refl

  -- with the float x of the next sample, whose pattern is b
  pub more : DepthOk d → (s : ℕ) (x : Float) {h b : ℕ} → F32 x → Gives d chroma s x → h ≡ patterns d chroma s
      → b ≡ cond (is_nan x) 2143289344 (to_bits binary32 x) → step h b ≡ patterns d chroma (suc s)
  unfolding patterns
  more ok s x {h} {b} fits g e p =
      let shown : b ≡ to_bits binary32 (part_of d chroma s) =
      p
      ∙ cond_no (is_nan x) 2143289344 (to_bits binary32 x) (exact_is_number x (numerator d chroma s) d g.exact)
      ∙ ap (to_bits binary32) ((all_one_to_one d chroma ok).one_float s x fits g) in
      λ i. step (e i) (shown i)
