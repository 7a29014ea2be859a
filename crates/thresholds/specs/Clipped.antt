-- Document 01's chroma threshold, which the customer's Rust has: the index is clipped first. The filter follows clause
-- 8.7.2.5.5 instead (specs/Chroma; document 02, C-17). Cited by proofs/Readings and docs/DIFFERENCES.md alone.
use Rattle.std.specs.Prelude.{ℕ, ◌*◌, ◌-◌, get_or, ℤ, pos}
use Rattle.ints.specs.Int.{◌⊞◌, neg, clip3}
use Rattle.thresholds.specs.Tables.{TC}
use Rattle.thresholds.specs.Luma.{tc_index, scaled}
use Rattle.thresholds.specs.Chroma.{chroma_qp}

-- "clipped as in clause 8.6.1 to −6·(chroma depth − 8)..57"
unfoldable pub clipped_index : ℕ → ℤ → ℤ
clipped_index depth qPi = clip3 (neg (pos (6 * (depth - 8)))) (pos 57) qPi

-- the Rust's qpc(index, format, depth)
unfoldable pub clipped_chroma_qp : ℕ → ℕ → ℤ → ℤ
clipped_chroma_qp format depth qPi = chroma_qp format (clipped_index depth qPi)

unfoldable pub clipped_chroma_tc : ℕ → ℕ → ℤ → ℤ → ℤ → ℕ
clipped_chroma_tc format depth qPL cQpPicOffset tcOffset =
    scaled depth (get_or TC (tc_index (clipped_chroma_qp format depth (qPL ⊞ cQpPicOffset)) (pos 2) tcOffset) 0)
