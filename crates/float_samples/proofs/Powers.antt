-- Powers of two up to 2^16, as the code makes them.
use Rattle.std.proofs.Common.{◌≡◌, ℕ, ◌+◌, ◌-◌, ◌*◌, ◌/◌, ◌^◌, ◌≤◌, sym, ap, ◌∙◌, mul-div_cancel, arith, pow_pos}
use Rattle.std.proofs.Common.{pow-add}

-- 2^16 shifted right by 16 - depth
pub shifted_out : (d : ℕ) → d ≤ 16 → 65536 / 2 ^ (16 - d) ≡ 2 ^ d
shifted_out d h =
    let all : d + (16 - d) ≡ 16 = omega arith in
    let parts : 65536 ≡ 2 ^ d * 2 ^ (16 - d) = sym (ap (λ (n : ℕ). 2 ^ n) all) ∙ pow-add 2 d (16 - d) in
    ap (λ (n : ℕ). n / 2 ^ (16 - d)) parts ∙ mul-div_cancel (2 ^ d) (pow_pos (16 - d))
