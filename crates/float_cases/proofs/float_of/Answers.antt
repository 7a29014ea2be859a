-- `float_of` meets its contract: the patterns above that of the infinity, but for their sign, are a NaN's.
-- Assumes nothing.
use Prim.Native.Nat.{ℕ, ◌%◌, ◌≤◌, ◌<◌}
use mathlib.Core.Bool.{Bool, true, false, not, false≢true}
use mathlib.Core.Path.{◌≡◌, refl, sym, ◌∙◌, subst}
use borrow.Author.Tests.{le-ltb, lt-ltb}
use lib.Dec.{T}
use lib.Ieee.{Float, nan, inf, fin, binary32, div, is_nan, nan_bits, of_bits}
use lib.Ieee.Bits.{nan_bits_above, nan_bits_is}
use Rattle.float_cases.proofs.float_of.Goals as goal

is-nan : (x : Float) → is_nan x ≡ true → x ≡ nan
unfolding is_nan
is-nan nan e = refl
is-nan (inf s) e = absurd (false≢true e)
is-nan (fin s m k) e = absurd (false≢true e)

above : (n : ℕ) → 2139095040 < n % 2147483648 → of_bits binary32 n ≡ nan
above n h =
    is-nan (of_bits binary32 n)
    (sym (nan_bits_is binary32 n) ∙ nan_bits_above binary32 n ∙ lt-ltb 2139095040 (n % 2147483648) h)

not-above : (n : ℕ) → n % 2147483648 ≤ 2139095040 → T (not (nan_bits binary32 n))
not-above n h =
    let no : nan_bits binary32 n ≡ false = nan_bits_above binary32 n ∙ le-ltb 2139095040 (n % 2147483648) h in
    subst (λ (b : Bool). T (not b)) (sym no) tt

-- 0/0
none : div binary32 (of_bits binary32 0) (of_bits binary32 0) ≡ nan
unfolding div of_bits
none = refl

pub returns-then-bits-gt2139095040 : goal.returns-then-bits-gt2139095040
returns-then-bits-gt2139095040 c = none ∙ sym (above c.args.bits c.if-bits-gt2139095040.true)

pub float_from_bits-result : goal.float_from_bits-result
float_from_bits-result c = not-above c.args.bits c.if-bits-gt2139095040.false
