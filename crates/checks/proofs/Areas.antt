-- Products of checked sizes: they fit.
use Prim.Native.Nat.{ℕ, ◌*◌, ◌≤◌}
use native.Mathlib.Nat.{mul-le-mul, lt_of_le_of_lt}
use lib.Dec.{lit<}
use mir.Syntax.{w64}
use mir.Val.{Fits}

pub area_most : {a b : ℕ} → a ≤ 8192 → b ≤ 8192 → a * b ≤ 67108864
area_most ha hb = mul-le-mul ha hb

pub area_fits : {a b : ℕ} → a ≤ 8192 → b ≤ 8192 → Fits w64 (a * b)
area_fits ha hb = record { fits = lt_of_le_of_lt (area_most ha hb) (lit< tt) }
