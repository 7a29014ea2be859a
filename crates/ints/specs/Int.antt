-- The operations of ITU-T H.265 clauses 5.7 to 5.9 on integers: sum, difference, product, the shift that rounds down,
-- Clip3 and Abs. Each is one line over lib.IntN's ℤ. They are closed (unfoldable): lib.IntN's own compute away, and a
-- proof could no longer name them.
use Rattle.std.specs.Prelude.{ℕ, zero, ◌^◌, Bool, cond, ℤ, pos, negsuc, nat_abs, neg_ℤ, ◌+ℤ◌, ◌-ℤ◌, ◌*ℤ◌}
use Rattle.std.proofs.Math.IntN.{sub_ℕ}
use Rattle.std.specs.Int.Signed.{lt_z, shr_z}

-- a - b, for two naturals
infixl 6 ◌⊖◌
unfoldable pub ◌⊖◌ : ℕ → ℕ → ℤ
a ⊖ b = sub_ℕ a b

-- a + b, a - b, -a and a * b
infixl 6 ◌⊞◌ ◌⊟◌
infixl 7 ◌⊠◌
unfoldable pub ◌⊞◌ : ℤ → ℤ → ℤ
a ⊞ b = a +ℤ b

unfoldable pub ◌⊟◌ : ℤ → ℤ → ℤ
a ⊟ b = a -ℤ b

unfoldable pub neg : ℤ → ℤ
neg a = neg_ℤ a

unfoldable pub ◌⊠◌ : ℤ → ℤ → ℤ
a ⊠ b = a *ℤ b

-- a < b
unfoldable pub lt : ℤ → ℤ → Bool
lt a b = lt_z a b

-- x >> k: the floor of x / 2^k, also below zero
infixl 5 ◌>>◌
unfoldable pub ◌>>◌ : ℤ → ℕ → ℤ
x >> k = shr_z x (2 ^ k)

-- Clip3(lo, hi, v): lo where v < lo, hi where v > hi, else v
unfoldable pub clip3 : ℤ → ℤ → ℤ → ℤ
clip3 lo hi v = cond (lt v lo) lo (cond (lt hi v) hi v)

-- Abs(x)
unfoldable pub abs : ℤ → ℕ
abs z = nat_abs z

-- the natural of an integer that is not negative (0 of one that is)
unfoldable pub nat_of : ℤ → ℕ
nat_of (pos n) = n
nat_of (negsuc n) = zero
