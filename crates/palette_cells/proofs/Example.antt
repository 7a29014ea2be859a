-- The sentence at work, by computing it: S1 and K1 of document 01 on one picture, where the cells left of the edge are
-- palette ones. Their samples stay, in luma and in Cb, at either setting of the PCM switch; those right of it move.
use Prim.Native.Nat.{ℕ, ◌%◌}
use mathlib.Core.Path.{◌≡◌, refl}
use mathlib.Core.Bool.{Bool, true, false, cond}
use mathlib.Core.List.{List, [], ◌∷◌}
use lib.Dec.{ltb}
use lib.IntN.{pos}
use lib.ListN.{get_or}
use Rattle.filter.specs.Finished.{pass_of, restored, finished_plane}
use Rattle.filter.specs.Kernel.{kernel}
use Rattle.filter.specs.Pass.{window, pass}
use Rattle.filter.specs.Segment.{slices_open, gate, luma_filter, chroma_filter, between, segment_at}
use Rattle.ints.specs.Int.{◌⊖◌, ◌⊞◌, ◌⊟◌, neg, ◌⊠◌, lt, ◌>>◌, clip3, abs, nat_of}
use Rattle.lines.specs.Chroma.{chroma_delta, chroma_line}
use Rattle.lines.specs.Decision.{activity, d_sam, decision}
use Rattle.lines.specs.Luma.{clip1, near, strong_line, delta0, side_delta, second, weak_by, weak_line, luma_line}
use Rattle.picture.specs.Cell.{cell_at, suppressed}
use Rattle.picture.specs.Picture.{Picture}
use Rattle.picture.specs.Plane.{at, table}
use Rattle.picture.specs.Scale.{Y, Cb}
use Rattle.picture.specs.Slice.{slice_at}
use Rattle.picture.specs.Tile.{same_tile}
use Rattle.thresholds.specs.Chroma.{table_qpc, chroma_qp, chroma_tc}
use Rattle.thresholds.specs.Luma.{average_qp, beta_index, tc_index, scaled, luma_beta, luma_tc}
use Rattle.thresholds.specs.Tables.{BETA, TC, QPC}

-- a cell of QP 37 with both edges of bS 2, and one that is a palette cell besides
abbrev plain : List ℕ
plain = 101 ∷ 3 ∷ 2 ∷ 2 ∷ 0 ∷ 0 ∷ 0 ∷ 0 ∷ []

abbrev palette : List ℕ
palette = 101 ∷ 19 ∷ 2 ∷ 2 ∷ 0 ∷ 0 ∷ 0 ∷ 0 ∷ []

-- 32 by 16 in 4:2:0, a step at column 16 of luma and so at column 8 of chroma; eight cells to a row
abbrev picture : Bool → Picture
picture switch = record {
  width = 32;
  height = 16;
  settings = record {
    format = 1;
    luma_depth = 8;
    chroma_depth = 8;
    log2_ctb = 4;
    cb_offset = pos 0;
    cr_offset = pos 0;
    pcm_loop_filter_disabled = switch;
  };
  originals = record {
    y = table 32 16 (λ x y. cond (ltb x 16) 100 104);
    cb = table 16 8 (λ x y. cond (ltb x 8) 50 60);
    cr = table 16 8 (λ x y. 50);
  };
  cells = table 8 32 (λ byte n. get_or (cond (ltb (n % 8) 4) palette plain) byte 0);
  slices = 0 ∷ 6 ∷ 6 ∷ 1 ∷ [];
  columns = 0 ∷ [];
  rows = 0 ∷ [];
}

-- the samples across the edge in row 2: four on each side in luma, two on each side in Cb
abbrev luma : Bool → List ℕ
luma switch = sample 12 ∷ sample 13 ∷ sample 14 ∷ sample 15 ∷ sample 16 ∷ sample 17 ∷ sample 18 ∷ sample 19 ∷ []
  where
    sample : ℕ → ℕ
    sample x = finished_plane (picture switch) Y x 2

abbrev cb : Bool → List ℕ
cb switch = sample 6 ∷ sample 7 ∷ sample 8 ∷ sample 9 ∷ []
  where
    sample : ℕ → ℕ
    sample x = finished_plane (picture switch) Cb x 2

left_stays : (switch : Bool)
    → (luma switch ≡ 100 ∷ 100 ∷ 100 ∷ 100 ∷ 103 ∷ 103 ∷ 104 ∷ 104 ∷ []) × (cb switch ≡ 50 ∷ 50 ∷ 56 ∷ 60 ∷ [])
unfolding ◌⊖◌ ◌⊞◌ ◌⊟◌ neg ◌⊠◌ lt ◌>>◌ clip3 abs nat_of pass_of restored finished_plane kernel window pass slices_open
    gate luma_filter chroma_filter between segment_at activity d_sam decision clip1 near strong_line delta0 side_delta
    second weak_by weak_line luma_line chroma_delta chroma_line cell_at suppressed at table slice_at same_tile
    average_qp beta_index tc_index scaled luma_beta luma_tc table_qpc chroma_qp chroma_tc BETA TC QPC
left_stays true = (refl, refl)
left_stays false = (refl, refl)
