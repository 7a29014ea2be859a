-- What the private functions compute, in naturals. A signed number is held with a bias, 65536 more. No public contract
-- cites this module.
use Rattle.std.specs.Prelude.{ℕ, ◌+◌, ◌*◌, ◌-◌, ◌/◌, min, max, Bool, cond, ◌&&◌, ltb, ℤ}
use Rattle.ints.specs.Int.{◌⊖◌}
use Rattle.ints.specs.Sample.{distance}

-- the integer that a biased number stands for
abbrev pub biased : ℕ → ℤ
biased n = n ⊖ 65536

-- Clip3(x - 2 tc, x + 2 tc, v)
abbrev pub near_n : ℕ → ℕ → ℕ → ℕ
near_n tc x v = max (x - 2 * tc) (min (x + 2 * tc) v)

abbrev pub d_sam_n : ℕ → ℕ → ℕ → ℕ → ℕ → ℕ → ℕ → Bool
d_sam_n β tc dpq p3 p0 q0 q3 =
    ltb dpq (β / 4) && (ltb (distance p3 p0 + distance q0 q3) (β / 8) && ltb (distance p0 q0) ((5 * tc + 1) / 2))

-- Δ of the weak filter before it is clipped
abbrev pub weak_delta_n : ℕ → ℕ → ℕ → ℕ → ℕ
weak_delta_n p1 p0 q0 q1 = (9 * q0 + 3 * p1 + 1048584 - (9 * p0 + 3 * q1)) / 16

-- Clip3(-t, t, d)
abbrev pub clip_delta_n : ℕ → ℕ → ℕ
clip_delta_n t d = max (65536 - t) (min (65536 + t) d)

-- Clip1(x + d)
abbrev pub moved_n : ℕ → ℕ → ℕ → ℕ
moved_n largest x d = min largest (x + d - 65536)

-- Δp or Δq
abbrev pub side_delta_n : ℕ → ℕ → ℕ → ℕ → ℕ → ℕ
side_delta_n half x2 x1 x0 d = clip_delta_n half (((x2 + x0 + 1) / 2 + d + 65536 - x1) / 2)

-- p1' or q1'
abbrev pub second_n : Bool → ℕ → ℕ → ℕ → ℕ → ℕ → ℕ → ℕ
second_n on largest half x2 x1 x0 d = cond on (moved_n largest x1 (side_delta_n half x2 x1 x0 d)) x1
