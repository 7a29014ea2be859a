-- Powers of two that a 32-bit shift of 1 gives.
use Prim.Native.Nat.{ℕ, ◌*◌, ◌%◌, ◌^◌, ◌≤◌}
use mathlib.Core.Path.{◌≡◌, ap, ◌∙◌}
use native.Mathlib.Nat.{one-mul, mod-eq_of_lt}
use native.Mathlib.Omega.{arith}
use lib.Pow.{pow_pos, pow_mono}

pub power_least : (k : ℕ) → 1 ≤ 2 ^ k
power_least k = pow_pos k

pub power_most : (k : ℕ) → k ≤ 16 → 2 ^ k ≤ 65536
power_most k h = pow_mono h

pub shifted : (k : ℕ) → k ≤ 16 → 1 * 2 ^ k % 4294967296 ≡ 2 ^ k
shifted k h = ap (λ (m : ℕ). m % 4294967296) (one-mul (2 ^ k)) ∙ mod-eq_of_lt (omega (arith, power_most k h))
