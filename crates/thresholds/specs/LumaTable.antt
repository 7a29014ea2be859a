-- Document 02, C-18: "Keep a constant table of 1,352 numbers, for average QP 0 to 51, bS 1 and 2, tc div2 −6 to 6. One
-- rule is shown for all rows: each is document 01's tc at depth 8."
use Rattle.std.specs.Prelude.{ℕ, ◌+◌, ◌*◌, ◌-◌, ◌≤◌, ◌≡◌, List, length, get_or, pos}
use Rattle.ints.specs.Int.{◌⊖◌}
use Rattle.thresholds.specs.Luma.{luma_tc}

-- where an entry stands: by average QP, then by bS, then by tc div2, which is given 6 more, as in a slice record. So
-- there are 26 entries to an average and 13 to a bS.
unfoldable pub tc_place : ℕ → ℕ → ℕ → ℕ
tc_place qPL bS offset = 26 * qPL + 13 * (bS - 1) + offset

-- what a list has to be, to be the table: as long, and document 01's tc at depth 8 at each entry
pub record TcTable (entries : List ℕ) : Type 0 where
  pub long : length entries ≡ 1352
  pub entry : (qPL bS offset : ℕ) → qPL ≤ 51 → 1 ≤ bS → bS ≤ 2 → offset ≤ 12
      → get_or entries (tc_place qPL bS offset) 0 ≡ luma_tc 8 (pos qPL) (pos bS) (offset ⊖ 6)
