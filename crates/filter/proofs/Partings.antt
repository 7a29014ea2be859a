-- Where document 01 and the standard name different samples and no finished sample can show it: each pair lies in one
-- cell.
use Prim.Native.Nat.{ℕ, ◌+◌, ◌-◌, ◌%◌, ◌≤◌, ◌<◌}
use mathlib.Core.Path.{◌≡◌}
use native.Mathlib.Omega.{arith}
use Rattle.picture.specs.Scale.{Sampling, whole, halved, absent, to_luma, cell_of}

-- the Q cell is that of the segment's second sample (document 01, the Rust) or of its first (clause 8.7.2.5.3): one
-- cell, at every scale
pub second_sample : (s : Sampling) (l : ℕ) → l % 4 ≡ 0 → cell_of (to_luma s (l + 1)) ≡ cell_of (to_luma s l)
second_sample whole l h = omega arith
second_sample halved l h = omega arith
second_sample absent l h = omega arith

-- restoration looks at each luma sample's own cell, the clause's nDp at that of p0: the P side of a segment is one
-- cell
pub p_side : (e l x y : ℕ) → e % 8 ≡ 0 → l % 4 ≡ 0 → x < e → e ≤ x + 4 → l ≤ y → y < l + 4
    → (cell_of x ≡ cell_of (e - 1)) × (cell_of y ≡ cell_of l)
p_side e l x y he hl below near first last = (omega arith, omega arith)

-- and so is its Q side
pub q_side : (e l x y : ℕ) → e % 8 ≡ 0 → l % 4 ≡ 0 → e ≤ x → x < e + 4 → l ≤ y → y < l + 4
    → (cell_of x ≡ cell_of e) × (cell_of y ≡ cell_of l)
q_side e l x y he hl from near first last = (omega arith, omega arith)
