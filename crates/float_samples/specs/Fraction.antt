-- Fractions n / 2^depth of whole numbers, and what it is for a float to be exactly one of them. lib.Ieee writes a
-- finite float as `fin s m e`: m * 2^e, below zero where s is true; and 2^e is up e / down e.
use Rattle.std.specs.Prelude.{◌≡◌, ℕ, ◌*◌, ◌^◌, Bool, true, false, ℤ, pos, negsuc, unsigned_abs, Float}
use Rattle.std.specs.Float.{nan, inf, fin, binary32}
use Rattle.std.specs.Float.Ieee.{up, down, fits}

-- n / 2^depth
pub record Fraction : Type 0 where
  pub n : ℤ
  pub depth : ℕ

-- n is below zero; zero is not
abbrev pub is_negative : ℤ → Bool
is_negative (pos n) = false
is_negative (negsuc n) = true

-- x = n / 2^depth: m * 2^e * 2^depth = |n|, and x has n's sign. No whole number is -0, so -0.0 is no fraction.
unfoldable pub Exactly : Float → ℤ → ℕ → Type 0
Exactly nan n depth = ⊥
Exactly (inf s) n depth = ⊥
Exactly (fin s m e) n depth = (s ≡ is_negative n) × (m * up e * 2 ^ depth ≡ unsigned_abs n * down e)

-- a value of the format f32
abbrev pub F32 : Float → Type 0
F32 x = fits binary32 x ≡ true
