-- The definitions at work, by computing them: T1 and B2 of document 01, S1 on a picture, and a suppressed cell.
use Prim.Native.Nat.{ℕ, zero, suc}
use mathlib.Core.Path.{◌≡◌, refl}
use mathlib.Core.Bool.{false, cond}
use mathlib.Core.List.{List, [], ◌∷◌, ◌++◌}
use lib.Dec.{ltb}
use lib.IntN.{pos}
use Rattle.ints.specs.Int.{◌⊖◌, ◌⊞◌, ◌⊟◌, neg, ◌⊠◌, lt, ◌>>◌, clip3, abs, nat_of}
use Rattle.filter.specs.Bands.{horizontal_band_end, bands_from, horizontal_bands}
use Rattle.filter.specs.Finished.{pass_of, restored, finished_plane}
use Rattle.filter.specs.Kernel.{kernel}
use Rattle.filter.specs.Pass.{window, pass}
use Rattle.filter.specs.Segment.{slices_open, gate, luma_filter, chroma_filter, between, segment_at}
use Rattle.lines.specs.Decision.{activity, d_sam, decision}
use Rattle.lines.specs.Luma.{clip1, near, strong_line, delta0, side_delta, second, weak_by, weak_line, luma_line}
use Rattle.picture.specs.Cell.{cell_at, suppressed}
use Rattle.picture.specs.Picture.{Picture}
use Rattle.picture.specs.Plane.{at, table}
use Rattle.picture.specs.Scale.{Y}
use Rattle.picture.specs.Slice.{slice_at}
use Rattle.picture.specs.Tile.{same_tile}
use Rattle.thresholds.specs.Luma.{average_qp, beta_index, tc_index, scaled, luma_beta, luma_tc}
use Rattle.thresholds.specs.Tables.{BETA, TC}

-- n times the same record
repeated : ℕ → List ℕ → List ℕ
repeated zero l = []
repeated (suc n) l = l ++ repeated n l

-- T1's picture: 32 by 16, CTB 16, both QP 37, bS 2 and every edge flag set, 100 left of column 16 and 104 right of it
picture : List ℕ → List ℕ → Picture
picture columns cell = record {
  width = 32;
  height = 16;
  settings = record {
    format = 0;
    luma_depth = 8;
    chroma_depth = 8;
    log2_ctb = 4;
    cb_offset = pos 0;
    cr_offset = pos 0;
    pcm_loop_filter_disabled = false;
  };
  originals = record { y = table 32 16 (λ x y. cond (ltb x 16) 100 104); cb = []; cr = [] };
  cells = repeated 32 cell;
  slices = 0 ∷ 6 ∷ 6 ∷ 1 ∷ [];
  columns = columns;
  rows = 0 ∷ [];
}

filtered : List ℕ
filtered = 101 ∷ 3 ∷ 2 ∷ 2 ∷ 0 ∷ 0 ∷ 0 ∷ 0 ∷ []

lossless : List ℕ
lossless = 101 ∷ 7 ∷ 2 ∷ 2 ∷ 0 ∷ 0 ∷ 0 ∷ 0 ∷ []

-- the eight samples across column 16, in row 2
row : List ℕ → List ℕ → List ℕ
row columns cell =
    sample 12 ∷ sample 13 ∷ sample 14 ∷ sample 15 ∷ sample 16 ∷ sample 17 ∷ sample 18 ∷ sample 19 ∷ []
  where
    sample : ℕ → ℕ
    sample x = finished_plane (picture columns cell) Y x 2

-- T1 with columns 0: the edge at column 16 is filtered, as in S1
one_tile : row (0 ∷ []) filtered ≡ 100 ∷ 101 ∷ 101 ∷ 102 ∷ 103 ∷ 103 ∷ 104 ∷ 104 ∷ []
unfolding repeated picture filtered row ◌⊖◌ ◌⊞◌ ◌⊟◌ neg ◌⊠◌ lt ◌>>◌ clip3 abs nat_of pass_of restored finished_plane
    kernel window pass slices_open gate luma_filter chroma_filter between segment_at activity d_sam decision clip1 near
    strong_line delta0 side_delta second weak_by weak_line luma_line cell_at suppressed at table slice_at same_tile
    average_qp
    beta_index tc_index scaled luma_beta luma_tc BETA TC
one_tile = refl

-- T1 with columns 0, 1: nothing crosses column 16
two_tiles : row (0 ∷ 1 ∷ []) filtered ≡ 100 ∷ 100 ∷ 100 ∷ 100 ∷ 104 ∷ 104 ∷ 104 ∷ 104 ∷ []
unfolding repeated picture filtered row ◌⊖◌ ◌⊞◌ ◌⊟◌ neg ◌⊠◌ lt ◌>>◌ clip3 abs nat_of pass_of restored finished_plane
    kernel window pass slices_open gate luma_filter chroma_filter between segment_at activity d_sam decision clip1 near
    strong_line delta0 side_delta second weak_by weak_line luma_line cell_at suppressed at table slice_at same_tile
    average_qp
    beta_index tc_index scaled luma_beta luma_tc BETA TC
two_tiles = refl

-- lossless cells keep their samples though their edges are open
lossless_kept : row (0 ∷ []) lossless ≡ 100 ∷ 100 ∷ 100 ∷ 100 ∷ 104 ∷ 104 ∷ 104 ∷ 104 ∷ []
unfolding repeated picture lossless row ◌⊖◌ ◌⊞◌ ◌⊟◌ neg ◌⊠◌ lt ◌>>◌ clip3 abs nat_of pass_of restored finished_plane
    kernel window pass slices_open gate luma_filter chroma_filter between segment_at activity d_sam decision clip1 near
    strong_line delta0 side_delta second weak_by weak_line luma_line cell_at suppressed at table slice_at same_tile
    average_qp
    beta_index tc_index scaled luma_beta luma_tc BETA TC
lossless_kept = refl

-- B2: height 24 ends at 20 and 24; height 16 is one band
other_bands : (horizontal_bands 24 16 ≡ 20 ∷ 24 ∷ []) × (horizontal_bands 16 16 ≡ 16 ∷ [])
unfolding horizontal_band_end bands_from horizontal_bands
other_bands = (refl, refl)
