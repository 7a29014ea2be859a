-- Each table one row past both ends: what the definitions give at index -1, 0, last and last + 1. The code cannot read
-- past an end: `beta_row`, `tc_row` and `qpc_row` require an index inside their table, and so does `luma_tc`, but for
-- negative averages, of which it reads nothing.
use mathlib.Core.Path.{◌≡◌, refl}
use lib.ListN.{length}
use lib.IntN.{ℤ, pos, negsuc}
use lib.Signed.{◌≤ℤ◌}
use Rattle.ints.specs.Int.{◌⊞◌, ◌⊟◌, neg, ◌⊠◌, lt, clip3, nat_of}
use Rattle.ints.proofs.Bounds.{sum_least, sum_most}
use Rattle.thresholds.specs.Tables.{BETA, TC, QPC}
use Rattle.thresholds.specs.Luma.{average_qp, beta_index, tc_index, scaled, luma_beta, luma_tc}
use Rattle.thresholds.specs.LumaTable.{tc_place}
use Rattle.thresholds.specs.Chroma.{table_qpc, chroma_qp, chroma_tc}
use Rattle.thresholds.proofs.Facts.{average_least, average_most}

pub rows : (length BETA ≡ 52) × (length TC ≡ 54) × (length QPC ≡ 14)
unfolding BETA TC QPC
rows = (refl, refl, refl)

-- β index and β, of the indices -1, 0, 51 and 52 before the clip; β at depth 16 last
pub beta_ends :
    (beta_index (negsuc 0) (pos 0) ≡ 0)
    × (beta_index (pos 0) (pos 0) ≡ 0)
    × (beta_index (pos 51) (pos 0) ≡ 51)
    × (beta_index (pos 40) (pos 6) ≡ 51)
unfolding beta_index nat_of clip3 lt ◌⊞◌ ◌⊠◌
beta_ends = (refl, refl, refl, refl)

pub beta_values :
    (luma_beta 8 (negsuc 0) (pos 0) ≡ 0)
    × (luma_beta 8 (pos 0) (pos 0) ≡ 0)
    × (luma_beta 8 (pos 51) (pos 0) ≡ 64)
    × (luma_beta 8 (pos 40) (pos 6) ≡ 64)
    × (luma_beta 16 (pos 40) (pos 6) ≡ 16384)
unfolding luma_beta beta_index scaled BETA nat_of clip3 lt ◌⊞◌ ◌⊠◌
beta_values = (refl, refl, refl, refl, refl)

-- tC index and tC, of the indices -1, 0, 53 and 54 before the clip; tC at depth 16 last
pub tc_ends :
    (tc_index (negsuc 0) (pos 1) (pos 0) ≡ 0)
    × (tc_index (pos 0) (pos 1) (pos 0) ≡ 0)
    × (tc_index (pos 51) (pos 2) (pos 0) ≡ 53)
    × (tc_index (pos 40) (pos 2) (pos 6) ≡ 53)
unfolding tc_index nat_of clip3 lt ◌⊞◌ ◌⊟◌ ◌⊠◌
tc_ends = (refl, refl, refl, refl)

pub tc_values :
    (luma_tc 8 (negsuc 0) (pos 1) (pos 0) ≡ 0)
    × (luma_tc 8 (pos 0) (pos 1) (pos 0) ≡ 0)
    × (luma_tc 8 (pos 51) (pos 2) (pos 0) ≡ 24)
    × (luma_tc 8 (pos 40) (pos 2) (pos 6) ≡ 24)
    × (luma_tc 16 (pos 40) (pos 2) (pos 6) ≡ 6144)
unfolding luma_tc tc_index scaled TC nat_of clip3 lt ◌⊞◌ ◌⊟◌ ◌⊠◌
tc_values = (refl, refl, refl, refl, refl)

-- The table of the luma tc (C-18): its first and its last place, and the first past it. An offset or a bS past an end
-- would be another row's entry, so `luma_tc` asks for a bS of 1 or 2, an offset of 12 at the most and an average of 51
-- at the most.
pub place_ends :
    (tc_place 0 1 0 ≡ 0)
    × (tc_place 51 2 12 ≡ 1351)
    × (tc_place 52 1 0 ≡ 1352)
    × (tc_place 30 1 13 ≡ tc_place 30 2 0)
    × (tc_place 30 0 0 ≡ tc_place 30 1 0)
    × (tc_place 30 3 0 ≡ tc_place 31 1 0)
unfolding tc_place
place_ends = (refl, refl, refl, refl, refl, refl)

-- tC of the averages -1, 0, 51 and 52, each at tc div2 -6 and 6, for bS 1 and for bS 2: at depth 8, and -1 at depth 9,
-- the least that has it. No picture has the last one: a QP of 52 is refused.
pub average_ends :
    (luma_tc 9 (negsuc 0) (pos 1) (negsuc 5) ≡ 0) × (luma_tc 9 (negsuc 0) (pos 1) (pos 6) ≡ 0)
    × (luma_tc 9 (negsuc 0) (pos 2) (negsuc 5) ≡ 0) × (luma_tc 9 (negsuc 0) (pos 2) (pos 6) ≡ 0)
    × (luma_tc 8 (pos 0) (pos 1) (negsuc 5) ≡ 0) × (luma_tc 8 (pos 0) (pos 1) (pos 6) ≡ 0)
    × (luma_tc 8 (pos 0) (pos 2) (negsuc 5) ≡ 0) × (luma_tc 8 (pos 0) (pos 2) (pos 6) ≡ 0)
    × (luma_tc 8 (pos 51) (pos 1) (negsuc 5) ≡ 5) × (luma_tc 8 (pos 51) (pos 1) (pos 6) ≡ 24)
    × (luma_tc 8 (pos 51) (pos 2) (negsuc 5) ≡ 6) × (luma_tc 8 (pos 51) (pos 2) (pos 6) ≡ 24)
    × (luma_tc 8 (pos 52) (pos 1) (negsuc 5) ≡ 6) × (luma_tc 8 (pos 52) (pos 1) (pos 6) ≡ 24)
    × (luma_tc 8 (pos 52) (pos 2) (negsuc 5) ≡ 7) × (luma_tc 8 (pos 52) (pos 2) (pos 6) ≡ 24)
unfolding luma_tc tc_index scaled TC nat_of clip3 lt ◌⊞◌ ◌⊟◌ ◌⊠◌
average_ends =
    (refl, refl, refl, refl, refl, refl, refl, refl, refl, refl, refl, refl, refl, refl, refl, refl)

-- The least average that has a tC is 4, at bS 2 and tc div2 6: row 18.
pub least_average : (luma_tc 8 (pos 3) (pos 2) (pos 6) ≡ 0) × (luma_tc 8 (pos 4) (pos 2) (pos 6) ≡ 1)
unfolding luma_tc tc_index scaled TC nat_of clip3 lt ◌⊞◌ ◌⊟◌ ◌⊠◌
least_average = (refl, refl)

-- table 8-10 at 29, 30, 43 and 44
pub qpc_ends :
    (table_qpc (pos 29) ≡ pos 29)
    × (table_qpc (pos 30) ≡ pos 29)
    × (table_qpc (pos 43) ≡ pos 37)
    × (table_qpc (pos 44) ≡ pos 38)
unfolding table_qpc QPC nat_of lt ◌⊟◌
qpc_ends = (refl, refl, refl, refl)

-- The chroma indices that can occur are -60, of QPs -48 (depth 16) and offset -12, to 63, of QPs 51 and offset 12. The
-- chroma QP at both, and in format 1 also where the Rust's clip was, at 57 and 58.
pub index_least : (qpP qpQ cQpPicOffset : ℤ)
    → neg (pos 48) ≤ℤ qpP → neg (pos 48) ≤ℤ qpQ → neg (pos 12) ≤ℤ cQpPicOffset
    → neg (pos 60) ≤ℤ (average_qp qpP qpQ ⊞ cQpPicOffset)
index_least p q o hp hq ho = sum_least 48 12 _ o (average_least 48 p q hp hq) ho

pub index_most : (qpP qpQ cQpPicOffset : ℤ)
    → qpP ≤ℤ pos 51 → qpQ ≤ℤ pos 51 → cQpPicOffset ≤ℤ pos 12
    → (average_qp qpP qpQ ⊞ cQpPicOffset) ≤ℤ pos 63
index_most p q o hp hq ho = sum_most 51 12 _ o (average_most 51 p q hp hq) ho

pub index_ends :
    (chroma_qp 1 (neg (pos 60)) ≡ neg (pos 60))
    × (chroma_qp 1 (pos 57) ≡ pos 51)
    × (chroma_qp 1 (pos 58) ≡ pos 52)
    × (chroma_qp 1 (pos 63) ≡ pos 57)
unfolding chroma_qp table_qpc lt neg ◌⊟◌
index_ends = (refl, refl, refl, refl)

-- formats 2 and 3 at -60, 50, 51, 52 and 63
pub other_ends :
    (chroma_qp 2 (neg (pos 60)) ≡ neg (pos 60))
    × (chroma_qp 2 (pos 50) ≡ pos 50)
    × (chroma_qp 2 (pos 51) ≡ pos 51)
    × (chroma_qp 2 (pos 52) ≡ pos 51)
    × (chroma_qp 2 (pos 63) ≡ pos 51)
    × (chroma_qp 3 (neg (pos 60)) ≡ neg (pos 60))
    × (chroma_qp 3 (pos 50) ≡ pos 50)
    × (chroma_qp 3 (pos 51) ≡ pos 51)
    × (chroma_qp 3 (pos 52) ≡ pos 51)
    × (chroma_qp 3 (pos 63) ≡ pos 51)
unfolding chroma_qp lt neg
other_ends = (refl, refl, refl, refl, refl, refl, refl, refl, refl, refl)

-- tC of chroma in each format, of the tc indices -1, 0, 53 and 54 before the clip; at depth 16 last.
-- Format 1 has chroma QP 51 and 50 at qPi 57 and 56, so Cb and Cr offsets 6 and 5 there.
pub chroma_values :
    (chroma_tc 1 8 (pos 3) (pos 0) (negsuc 2) ≡ 0)
    × (chroma_tc 1 8 (pos 2) (pos 0) (negsuc 1) ≡ 0)
    × (chroma_tc 1 8 (pos 51) (pos 6) (pos 0) ≡ 24)
    × (chroma_tc 1 8 (pos 51) (pos 5) (pos 1) ≡ 24)
    × (chroma_tc 1 16 (pos 51) (pos 5) (pos 1) ≡ 6144)
unfolding chroma_tc chroma_qp table_qpc tc_index scaled TC QPC nat_of clip3 lt ◌⊞◌ ◌⊟◌ ◌⊠◌
chroma_values = (refl, refl, refl, refl, refl)

-- The same at the chroma indices -60 and 63: the least and the largest tc index, -70 and 71; 53 and 54 of 63 and of 62.
pub far_values :
    (chroma_tc 1 8 (neg (pos 48)) (neg (pos 12)) (neg (pos 6)) ≡ 0)
    × (chroma_tc 1 8 (pos 51) (pos 12) (negsuc 2) ≡ 24)
    × (chroma_tc 1 8 (pos 51) (pos 11) (negsuc 1) ≡ 24)
    × (chroma_tc 1 8 (pos 51) (pos 12) (pos 6) ≡ 24)
    × (chroma_tc 1 16 (pos 51) (pos 12) (pos 6) ≡ 6144)
unfolding chroma_tc chroma_qp table_qpc tc_index scaled TC QPC nat_of clip3 lt neg ◌⊞◌ ◌⊟◌ ◌⊠◌
far_values = (refl, refl, refl, refl, refl)

pub other_chroma_values :
    (chroma_tc 2 8 (pos 3) (pos 0) (negsuc 2) ≡ 0)
    × (chroma_tc 2 8 (pos 2) (pos 0) (negsuc 1) ≡ 0)
    × (chroma_tc 2 8 (pos 51) (pos 0) (pos 0) ≡ 24)
    × (chroma_tc 2 8 (pos 50) (pos 0) (pos 1) ≡ 24)
    × (chroma_tc 2 16 (pos 50) (pos 0) (pos 1) ≡ 6144)
    × (chroma_tc 3 8 (pos 3) (pos 0) (negsuc 2) ≡ 0)
    × (chroma_tc 3 8 (pos 2) (pos 0) (negsuc 1) ≡ 0)
    × (chroma_tc 3 8 (pos 51) (pos 0) (pos 0) ≡ 24)
    × (chroma_tc 3 8 (pos 50) (pos 0) (pos 1) ≡ 24)
    × (chroma_tc 3 16 (pos 50) (pos 0) (pos 1) ≡ 6144)
unfolding chroma_tc chroma_qp tc_index scaled TC nat_of clip3 lt ◌⊞◌ ◌⊟◌ ◌⊠◌
other_chroma_values = (refl, refl, refl, refl, refl, refl, refl, refl, refl, refl)
