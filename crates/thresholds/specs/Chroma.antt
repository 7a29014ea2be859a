-- ITU-T H.265 clause 8.7.2.5.5 and table 8-10: the chroma QP and the chroma threshold tC, for every chroma format, for
-- Cb and for Cr. The index qPi is not clipped (document 02, C-17; document 01's reading is in specs/Clipped).
use Rattle.std.specs.Prelude.{ℕ, cond, eqb, get_or, ℤ, pos}
use Rattle.ints.specs.Int.{◌⊞◌, ◌⊟◌, lt, nat_of}
use Rattle.thresholds.specs.Tables.{TC, QPC}
use Rattle.thresholds.specs.Luma.{tc_index, scaled}

-- Table 8-10, ChromaArrayType 1: below 30 qPi; 30 to 43 the table's row; above 43 qPi - 6, "all the way up" (C-17)
unfoldable pub table_qpc : ℤ → ℤ
table_qpc qPi =
    cond (lt qPi (pos 30)) qPi
    (cond (lt (pos 43) qPi) (qPi ⊟ pos 6)
    (pos (get_or QPC (nat_of (qPi ⊟ pos 30)) 0)))

-- QpC: by the table in format 1 (4:2:0), else Min(qPi, 51)
unfoldable pub chroma_qp : ℕ → ℤ → ℤ
chroma_qp format qPi = cond (eqb format 1) (table_qpc qPi) (cond (lt qPi (pos 51)) qPi (pos 51))

-- tC of a chroma segment: qPi = qPL + cQpPicOffset, the offset of Cb or of Cr; bS is 2 ("that + 2 + 2·tc div2, held to
-- 0..53")
unfoldable pub chroma_tc : ℕ → ℕ → ℤ → ℤ → ℤ → ℕ
chroma_tc format depth qPL cQpPicOffset tcOffset =
    scaled depth (get_or TC (tc_index (chroma_qp format (qPL ⊞ cQpPicOffset)) (pos 2) tcOffset) 0)
