-- The chroma threshold one row past both ends of the tc table: rows -1, 0, 52, 53 and 54 before the clip, in each
-- chroma format, for Cb and for Cr by its own offset. Row 53 is the last; row 52 is there to show that it is not read
-- in its place. And the chroma indices 57, 58 and 63 of 4:2:0, for Cb and for Cr (document 02, C-17).
use Prim.Native.Nat.{ℕ, ◌+◌}
use mathlib.Core.Path.{◌≡◌, refl}
use mathlib.Core.Bool.{false, true}
use mathlib.Core.List.{List, [], ◌∷◌, map}
use lib.IntN.{ℤ, pos}
use Rattle.ints.specs.Int.{◌⊖◌, ◌⊞◌, ◌⊟◌, ◌⊠◌, lt, ◌>>◌, clip3, nat_of}
use Rattle.filter.specs.Kernel.{tc_of}
use Rattle.filter.specs.Segment.{chroma_filter, filter_of}
use Rattle.picture.specs.declared.Cell.{Cell}
use Rattle.picture.specs.declared.Slice.{Slice}
use Rattle.picture.specs.Picture.{Settings}
use Rattle.picture.specs.Scale.{Component, Y, Cb, Cr}
use Rattle.thresholds.specs.Chroma.{table_qpc, chroma_qp, chroma_tc}
use Rattle.thresholds.specs.Luma.{average_qp, tc_index, scaled}
use Rattle.thresholds.specs.Tables.{TC, QPC}

-- depth 8, the component's offset is o and the other one's is 0
pub settings : ℕ → Component → ℤ → Settings
settings format c o = record {
  format = format;
  luma_depth = 8;
  chroma_depth = 8;
  log2_ctb = 4;
  cb_offset = elim c [ Y ↦ pos 0 | Cb ↦ o | Cr ↦ pos 0 ];
  cr_offset = elim c [ Y ↦ pos 0 | Cb ↦ pos 0 | Cr ↦ o ];
  pcm_loop_filter_disabled = false;
}

-- a QP and a tc offset div2, plus 6
pub record Read : Type 0 where
  pub qp : ℕ
  pub tc : ℕ

abbrev pub read : ℕ → ℕ → Read
read qp tc = record { qp = qp; tc = tc }

-- tc of a segment of bS 2 between two cells of that QP
pub tc_at : ℕ → Component → ℤ → Read → ℕ
tc_at format c o r =
    let cell : Cell = record { qp = r.qp + 64; flags = 3; bsv = 2; bsh = 2; slice = 0 } in
    let slice : Slice = record { disabled = false; beta = 6; tc = r.tc; across = true } in
    tc_of (filter_of (settings format c o) c cell cell slice 2)

-- 4:2:0, offset 6: the indices 9, 10, 56, 57 and 56 give the chroma QPs 9, 10, 50, 51 and 50
pub halved : Component → List ℕ
halved c = map (tc_at 1 c (pos 6)) (read 3 0 ∷ read 4 0 ∷ read 50 6 ∷ read 51 6 ∷ read 50 7 ∷ [])

-- 4:2:2 and 4:4:4, offset 1: the indices 9, 10, 50, 51 and 50, which are the chroma QPs
pub others : ℕ → Component → List ℕ
others format c = map (tc_at format c (pos 1)) (read 8 0 ∷ read 9 0 ∷ read 49 6 ∷ read 50 6 ∷ read 49 7 ∷ [])

abbrev pub ends : List ℕ
ends = 0 ∷ 0 ∷ 22 ∷ 24 ∷ 24 ∷ []

pub chroma_ends :
    (halved Cb ≡ ends) × (halved Cr ≡ ends)
    × (others 2 Cb ≡ ends) × (others 2 Cr ≡ ends)
    × (others 3 Cb ≡ ends) × (others 3 Cr ≡ ends)
unfolding settings tc_at halved others chroma_filter chroma_tc chroma_qp table_qpc average_qp tc_index
    scaled TC QPC
    ◌⊖◌ ◌⊞◌ ◌⊟◌ ◌⊠◌ lt ◌>>◌ clip3 nat_of
chroma_ends = (refl, refl, refl, refl, refl, refl)

-- 4:2:0, offset 12, tc div2 -6: the indices 57, 58 and 63 give the chroma QPs 51, 52 and 57, and tc rows 41, 42 and 47
pub highest : Component → List ℕ
highest c = map (tc_at 1 c (pos 12)) (read 45 0 ∷ read 46 0 ∷ read 51 0 ∷ [])

pub chroma_highest : (highest Cb ≡ 6 ∷ 7 ∷ 13 ∷ []) × (highest Cr ≡ 6 ∷ 7 ∷ 13 ∷ [])
unfolding settings tc_at highest chroma_filter chroma_tc chroma_qp table_qpc average_qp tc_index
    scaled TC QPC
    ◌⊖◌ ◌⊞◌ ◌⊟◌ ◌⊠◌ lt ◌>>◌ clip3 nat_of
chroma_highest = (refl, refl)
