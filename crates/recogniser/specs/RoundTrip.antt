-- What document 02's C-22 asks of the way back, proved both ways, for every depth from 8 to 16, of luma and of chroma.
use Rattle.std.specs.Prelude.{◌≡◌, Bool, true, ℕ, ◌<◌, ◌^◌, pos, Float}
use Rattle.std.specs.Float.{nan, inf, fin}
use Rattle.float_samples.specs.Fraction.{F32}
use Rattle.float_samples.specs.Sample.{DepthOk, Gives, part_of}
use Rattle.recogniser.specs.WayBack.{Answer, WayBack, refused, returned}

pub record RoundTrip (depth : ℕ) (chroma : Bool) : Type 0 where
  -- back after forth is the sample
  pub back_after_forth : (s : ℕ) → s < 2 ^ depth → (a : Answer) → WayBack depth chroma (part_of depth chroma s) a
      → a ≡ returned s
  -- a float that is not refused is the one that the returned sample gives
  pub forth_after_back : (s : ℕ) (x : Float) → F32 x → WayBack depth chroma x (returned s) → part_of depth chroma s ≡ x
  -- "refuses every other, among them NaN, infinities and negative zero"
  pub others_refused : (x : Float) → ((s : ℕ) → Gives depth chroma s x → ⊥) → (a : Answer) → WayBack depth chroma x a
      → a ≡ refused 15
  pub nan_refused : (a : Answer) → WayBack depth chroma nan a → a ≡ refused 15
  pub infinity_refused : (negative : Bool) (a : Answer) → WayBack depth chroma (inf negative) a → a ≡ refused 15
  pub negative_zero_refused : (a : Answer) → WayBack depth chroma (fin true 0 (pos 0)) a → a ≡ refused 15

pub record RoundTrips : Type 0 where
  pub both_ways : (depth : ℕ) (chroma : Bool) → DepthOk depth → RoundTrip depth chroma
  -- at any depth the answer is fixed
  pub one_answer : (depth : ℕ) (chroma : Bool) (x : Float) (a b : Answer) → WayBack depth chroma x a
      → WayBack depth chroma x b → a ≡ b
