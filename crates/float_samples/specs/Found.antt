-- What the way back finds.
use Rattle.std.specs.Prelude.{◌≡◌, ℕ, Bool, Float, Option, Some}
use Rattle.float_samples.specs.Sample.{Gives}

-- Document 02, C-22: "returns the sample for exactly those floats and refuses every other"
pub record Finds (depth : ℕ) (chroma : Bool) (value : Float) (r : Option ℕ) : Type 0 where
  pub only : (s : ℕ) → r ≡ Some s → Gives depth chroma s value
  pub every : (s : ℕ) → Gives depth chroma s value → r ≡ Some s
