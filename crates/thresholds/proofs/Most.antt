-- The largest thresholds (document 02, C-23): no tC is above 24 at depth 8, nor above 24 * 2^(depth - 8) at another
-- one, whatever it is made from, in luma and in chroma. That 24 is the largest is one test of table 8-12 (`rows_most`).
use Prim.Native.Nat.{ℕ, ◌*◌, ◌-◌, ◌^◌, ◌≤◌}
use native.Mathlib.Nat.{mul-le-mul_right}
use lib.IntN.{ℤ}
use lib.ListN.{get_or}
use Rattle.thresholds.specs.Chroma.{chroma_tc}
use Rattle.thresholds.specs.Luma.{scaled, luma_tc}
use Rattle.thresholds.specs.Tables.{TC}
use Rattle.thresholds.proofs.Rows.{rows_most}

scaled_most : (depth q : ℕ) → scaled depth (get_or TC q 0) ≤ 24 * 2 ^ (depth - 8)
unfolding scaled
scaled_most depth q = mul-le-mul_right (2 ^ (depth - 8)) (rows_most q)

pub luma_tc_most : (depth : ℕ) (qPL bS offset : ℤ) → luma_tc depth qPL bS offset ≤ 24 * 2 ^ (depth - 8)
unfolding luma_tc
luma_tc_most depth qPL bS offset = scaled_most depth _

pub chroma_tc_most : (format depth : ℕ) (qPL own offset : ℤ)
    → chroma_tc format depth qPL own offset ≤ 24 * 2 ^ (depth - 8)
unfolding chroma_tc
chroma_tc_most format depth qPL own offset = scaled_most depth _
