-- ITU-T H.265 clause 8.7.2.5.3: the average QP, the table indices Q, and the luma thresholds β and tC at a general
-- depth. Document 01, 'Luma': "QP is (QpP + QpQ + 1) >> 1. β index: QP + 2·beta div2, held to 0..51. tc index: QP +
-- 2·(bS − 1) + 2·tc div2, held to 0..53, offsets of Q's slice. Both table values are times 2^(depth − 8)."
use Rattle.std.specs.Prelude.{ℕ, ◌*◌, ◌-◌, ◌^◌, get_or, ℤ, pos}
use Rattle.ints.specs.Int.{◌⊞◌, ◌⊟◌, ◌⊠◌, ◌>>◌, clip3, nat_of}
use Rattle.thresholds.specs.Tables.{BETA, TC}

-- qPL = (QpQ + QpP + 1) >> 1
unfoldable pub average_qp : ℤ → ℤ → ℤ
average_qp qpP qpQ = qpQ ⊞ qpP ⊞ pos 1 >> 1

-- Q = Clip3(0, 51, qPL + (slice_beta_offset_div2 << 1))
unfoldable pub beta_index : ℤ → ℤ → ℕ
beta_index qPL offset = nat_of (clip3 (pos 0) (pos 51) (qPL ⊞ pos 2 ⊠ offset))

-- Q = Clip3(0, 53, qPL + 2 * (bS - 1) + (slice_tc_offset_div2 << 1))
unfoldable pub tc_index : ℤ → ℤ → ℤ → ℕ
tc_index qPL bS offset = nat_of (clip3 (pos 0) (pos 53) (qPL ⊞ pos 2 ⊠ (bS ⊟ pos 1) ⊞ pos 2 ⊠ offset))

-- a table's value times 1 << (BitDepth - 8)
unfoldable pub scaled : ℕ → ℕ → ℕ
scaled depth v = v * 2 ^ (depth - 8)

-- β = β' * (1 << (BitDepthY - 8))
unfoldable pub luma_beta : ℕ → ℤ → ℤ → ℕ
luma_beta depth qPL offset = scaled depth (get_or BETA (beta_index qPL offset) 0)

-- tC = tC' * (1 << (BitDepthY - 8))
unfoldable pub luma_tc : ℕ → ℤ → ℤ → ℤ → ℕ
luma_tc depth qPL bS offset = scaled depth (get_or TC (tc_index qPL bS offset) 0)
