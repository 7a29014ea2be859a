-- The sentences at work, by computing them: S1 of document 01 as a box wrote it, with strengths in every cell and one
-- column of edges. It was accepted, is refused at cell 0, and converted it is accepted and filtered.
use Prim.Native.Nat.{ℕ, ◌%◌}
use mathlib.Core.Path.{◌≡◌, refl}
use mathlib.Core.Bool.{false, cond}
use mathlib.Core.List.{List, [], ◌∷◌}
use lib.Dec.{eqb, ltb}
use lib.IntN.{pos}
use lib.ListN.{get_or}
use Rattle.conversion.specs.Converted.{converted}
use Rattle.filter.specs.Finished.{pass_of, restored, finished_plane}
use Rattle.filter.specs.Kernel.{kernel}
use Rattle.filter.specs.Pass.{window, pass}
use Rattle.filter.specs.Segment.{slices_open, gate, luma_filter, between, segment_at}
use Rattle.ints.specs.Int.{◌⊖◌, ◌⊞◌, ◌⊟◌, neg, ◌⊠◌, lt, ◌>>◌, clip3, abs, nat_of}
use Rattle.lines.specs.Decision.{activity, d_sam, decision}
use Rattle.lines.specs.Luma.{clip1, near, strong_line, delta0, side_delta, second, weak_by, weak_line, luma_line}
use Rattle.picture.specs.Causes.{verdict}
use Rattle.picture.specs.Cell.{cell_at, suppressed}
use Rattle.picture.specs.Ledger.{acceptance}
use Rattle.picture.specs.Picture.{Picture, Planes}
use Rattle.picture.specs.Plane.{at, table}
use Rattle.picture.specs.Scale.{Y}
use Rattle.picture.specs.Slice.{slice_at}
use Rattle.picture.specs.Tile.{same_tile}
use Rattle.thresholds.specs.Luma.{average_qp, beta_index, tc_index, scaled, luma_beta, luma_tc}
use Rattle.thresholds.specs.Tables.{BETA, TC}
use Rattle.converted_cells.specs.ConvertedCells.{converted_picture, verdict_before}

-- a cell of QP 37 with both strengths 2, without an edge and with one on its left side
abbrev plain : List ℕ
plain = 101 ∷ 0 ∷ 2 ∷ 2 ∷ 0 ∷ 0 ∷ 0 ∷ 0 ∷ []

abbrev edged : List ℕ
edged = 101 ∷ 1 ∷ 2 ∷ 2 ∷ 0 ∷ 0 ∷ 0 ∷ 0 ∷ []

-- 16 by 8, luma alone, a step at column 8; four cells to a row
abbrev planes : Planes
planes = record { y = table 16 8 (λ x y. cond (ltb x 8) 100 104); cb = []; cr = [] }

abbrev picture : Picture
picture = record {
  width = 16;
  height = 8;
  settings = record {
    format = 0;
    luma_depth = 8;
    chroma_depth = 8;
    log2_ctb = 4;
    cb_offset = pos 0;
    cr_offset = pos 0;
    pcm_loop_filter_disabled = false;
  };
  originals = planes;
  cells = table 8 8 (λ byte n. get_or (cond (eqb (n % 4) 2) edged plain) byte 0);
  slices = 0 ∷ 6 ∷ 6 ∷ 1 ∷ [];
  columns = 0 ∷ [];
  rows = 0 ∷ [];
}

answers :
    (verdict_before picture planes ≡ acceptance)
    × (verdict picture planes ≡ record { number = 9; place = 0 })
    × (verdict (converted_picture picture) planes ≡ acceptance)
unfolding ◌⊖◌ neg lt table converted verdict
answers = (refl, refl, refl)

-- the samples across the edge in row 2
abbrev row : List ℕ
row = sample 4 ∷ sample 5 ∷ sample 6 ∷ sample 7 ∷ sample 8 ∷ sample 9 ∷ sample 10 ∷ sample 11 ∷ []
  where
    sample : ℕ → ℕ
    sample x = finished_plane (converted_picture picture) Y x 2

filtered : row ≡ 100 ∷ 101 ∷ 101 ∷ 102 ∷ 103 ∷ 103 ∷ 104 ∷ 104 ∷ []
unfolding ◌⊖◌ ◌⊞◌ ◌⊟◌ neg ◌⊠◌ lt ◌>>◌ clip3 abs nat_of pass_of restored finished_plane kernel window pass slices_open
    gate luma_filter between segment_at activity d_sam decision clip1 near strong_line delta0 side_delta second
    weak_by weak_line luma_line cell_at suppressed at table slice_at same_tile average_qp beta_index tc_index scaled
    luma_beta luma_tc BETA TC converted
filtered = refl
