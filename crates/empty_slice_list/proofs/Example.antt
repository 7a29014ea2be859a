-- The sentence at work: S3's samples of document 01 without a slice record. And the record that stood there before C-13
-- is another: the empty list does not stand for 0, 6, 6, 1.
use Prim.Native.Nat.{ℕ}
use mathlib.Core.Path.{◌≡◌, refl, ap, sym, ◌∙◌}
use mathlib.Core.Bool.{false, cond}
use mathlib.Core.List.{List, [], ◌∷◌}
use native.Mathlib.Omega.{arith}
use lib.Dec.{ltb}
use lib.IntN.{pos}
use lib.ListN.{get_or, replicate}
use Rattle.filter.specs.Finished.{pass_of, restored, finished_plane, finished, outputs}
use Rattle.filter.specs.Kernel.{kernel}
use Rattle.filter.specs.Pass.{window, pass}
use Rattle.filter.specs.Segment.{slices_open, gate, luma_filter, between, segment_at}
use Rattle.ints.specs.Int.{◌⊖◌, ◌⊞◌, ◌⊟◌, neg, ◌⊠◌, lt, ◌>>◌, clip3, abs, nat_of}
use Rattle.lines.specs.Decision.{activity, d_sam, decision}
use Rattle.lines.specs.Luma.{clip1, near, strong_line, delta0, side_delta, second, weak_by, weak_line, luma_line}
use Rattle.picture.specs.Cell.{cell_at, suppressed}
use Rattle.picture.specs.Causes.{verdict}
use Rattle.picture.specs.Picture.{Picture, Planes}
use Rattle.picture.specs.Plane.{at, table}
use Rattle.picture.specs.Slice.{slice_at}
use Rattle.picture.specs.Tile.{same_tile}
use Rattle.thresholds.specs.Luma.{average_qp, beta_index, tc_index, scaled, luma_beta, luma_tc}
use Rattle.thresholds.specs.Tables.{BETA, TC}
use Rattle.empty_slice_list.specs.EmptyList.{StandsFor}

-- a cell of QP 37 with both edges of bS 2
abbrev filtered : List ℕ
filtered = 101 ∷ 3 ∷ 2 ∷ 2 ∷ 0 ∷ 0 ∷ 0 ∷ 0 ∷ []

-- 16 by 8, luma alone, eight such cells: 100 left of column 8 and 113 from there on
abbrev picture : List ℕ → Picture
picture slices = record {
  width = 16;
  height = 8;
  settings = record {
    format = 0;
    luma_depth = 8;
    chroma_depth = 8;
    log2_ctb = 4;
    cb_offset = pos 0;
    cr_offset = pos 0;
    pcm_loop_filter_disabled = false;
  };
  originals = record { y = table 16 8 (λ x y. cond (ltb x 8) 100 113); cb = []; cr = [] };
  cells = table 8 8 (λ byte n. get_or filtered byte 0);
  slices = slices;
  columns = 0 ∷ [];
  rows = 0 ∷ [];
}

abbrev lent : Planes
lent = record { y = replicate 128 7; cb = []; cr = [] }

-- the first row that the stage leaves, from column 4 to 11
abbrev row : List ℕ → List ℕ
row slices = sample 4 ∷ sample 5 ∷ sample 6 ∷ sample 7 ∷ sample 8 ∷ sample 9 ∷ sample 10 ∷ sample 11 ∷ []
  where
    sample : ℕ → ℕ
    sample x = get_or (outputs (picture slices) lent).y x 0

-- without a record tc is 4; with the record of before it is 5, as in S3
rows :
    (row [] ≡ 100 ∷ 100 ∷ 102 ∷ 104 ∷ 109 ∷ 111 ∷ 113 ∷ 113 ∷ [])
    × (row (0 ∷ 6 ∷ 6 ∷ 1 ∷ []) ≡ 100 ∷ 100 ∷ 102 ∷ 105 ∷ 108 ∷ 111 ∷ 113 ∷ 113 ∷ [])
unfolding verdict outputs finished ◌⊖◌ ◌⊞◌ ◌⊟◌ neg ◌⊠◌ lt ◌>>◌ clip3 abs nat_of pass_of restored finished_plane kernel
    window pass slices_open gate luma_filter between segment_at activity d_sam decision clip1 near strong_line delta0
    side_delta second weak_by weak_line luma_line cell_at suppressed at table slice_at same_tile average_qp beta_index
    tc_index scaled luma_beta luma_tc BETA TC
rows = (refl, refl)

-- so it does not stand for that one any more
not_before : StandsFor (0 ∷ 6 ∷ 6 ∷ 1 ∷ []) → ⊥
not_before h =
    let same = ap (λ (planes : Planes). get_or planes.y 7 0) (h.same_outputs (picture []) lent refl) in
    let four = ap (λ (l : List ℕ). get_or l 3 0) rows.0 in
    let five = ap (λ (l : List ℕ). get_or l 3 0) rows.1 in
    absurd (omega (arith, sym four ∙ same ∙ five))
