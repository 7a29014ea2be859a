-- Term 3 at work on T1 of document 01: "32 by 16, CTB 16, columns 0, 1: nothing crosses column 16. With columns 0 it
-- may."
use Prim.Native.Nat.{ℕ, zero, suc, ◌+◌}
use mathlib.Core.Path.{◌≡◌, refl}
use mathlib.Core.Bool.{false}
use mathlib.Core.List.{List, [], ◌∷◌, ◌++◌}
use native.Mathlib.Omega.{arith}
use lib.IntN.{pos}
use lib.ListN.{replicate}
use Rattle.filter.specs.Count.{differing, differences}
use Rattle.filter.specs.Finished.{pass_of, restored, finished_plane, finished, outputs}
use Rattle.filter.specs.Kernel.{kernel}
use Rattle.filter.specs.Pass.{window, pass}
use Rattle.filter.specs.Segment.{slices_open, gate, luma_filter, chroma_filter, between, segment_at}
use Rattle.ints.specs.Int.{◌⊖◌, ◌⊞◌, ◌⊟◌, neg, ◌⊠◌, lt, ◌>>◌, clip3, abs, nat_of}
use Rattle.lines.specs.Chroma.{chroma_delta, chroma_line}
use Rattle.lines.specs.Decision.{activity, d_sam, decision}
use Rattle.lines.specs.Luma.{clip1, near, strong_line, delta0, side_delta, second, weak_by, weak_line, luma_line}
use Rattle.picture.specs.Accepted.{PlanesOk}
use Rattle.picture.specs.Cell.{cell_at, suppressed}
use Rattle.picture.specs.Causes.{verdict}
use Rattle.picture.specs.Cut.{cut, tile_planes}
use Rattle.picture.specs.Picture.{Picture, Planes}
use Rattle.picture.specs.Plane.{at, table, rect, crop}
use Rattle.picture.specs.Scale.{Y, Cb, Cr}
use Rattle.picture.specs.Slice.{slice_at}
use Rattle.picture.specs.Tile.{same_tile, tile_first, tile_end}
use Rattle.thresholds.specs.Chroma.{table_qpc, chroma_qp, chroma_tc}
use Rattle.thresholds.specs.Luma.{average_qp, beta_index, tc_index, scaled, luma_beta, luma_tc}
use Rattle.thresholds.specs.Tables.{BETA, TC, QPC}
use Rattle.tiles_apart.specs.Term3.{AcceptedTile, Apart}
use Rattle.tiles_apart.proofs.Term3.{term3}

abbrev repeated : ℕ → List ℕ → List ℕ
repeated zero l = []
repeated (suc n) l = l ++ repeated n l

-- a cell of QP 37 with a vertical edge of bS 2; and the same with the lossless mark
abbrev filtered : List ℕ
filtered = 101 ∷ 1 ∷ 2 ∷ 0 ∷ 0 ∷ 0 ∷ 0 ∷ 0 ∷ []

abbrev lossless : List ℕ
lossless = 101 ∷ 5 ∷ 2 ∷ 0 ∷ 0 ∷ 0 ∷ 0 ∷ 0 ∷ []

-- 100 left of column 16; right of it `sample` in every place, and `cell` in every cell
abbrev picture : List ℕ → List ℕ → ℕ → Picture
picture columns cell sample = record {
  width = 32;
  height = 16;
  settings = record {
    format = 1;
    luma_depth = 8;
    chroma_depth = 8;
    log2_ctb = 4;
    cb_offset = pos 0;
    cr_offset = pos 0;
    pcm_loop_filter_disabled = false;
  };
  originals = record { y = samples 16 16; cb = samples 8 8; cr = samples 8 8 };
  cells = repeated 4 (repeated 4 filtered ++ repeated 4 cell);
  slices = 0 ∷ 6 ∷ 6 ∷ 1 ∷ [];
  columns = columns;
  rows = 0 ∷ [];
}
  where
    -- so many rows, and so many columns on each side
    samples : ℕ → ℕ → List ℕ
    samples rows columns = repeated rows (replicate columns 100 ++ replicate columns sample)

-- T1 with columns 0; with columns 0, 1; and the latter with another right tile, of lossless cells
abbrev one : Picture
one = picture (0 ∷ []) filtered 104

abbrev two : Picture
two = picture (0 ∷ 1 ∷ []) filtered 104

abbrev other : Picture
other = picture (0 ∷ 1 ∷ []) lossless 200

-- output planes that hold anything: for the picture, and for a cut
abbrev lent : Planes
lent = record { y = replicate 512 7; cb = replicate 128 7; cr = replicate 128 7 }

abbrev own : Planes
own = record { y = replicate 256 9; cb = replicate 64 9; cr = replicate 64 9 }

left : AcceptedTile two lent 0 0
unfolding verdict lt neg ◌⊖◌
left = record { accepted = refl; tile = omega arith }

right : AcceptedTile two lent 1 0
right = record { accepted = left.accepted; tile = omega arith }

own_long : PlanesOk (cut two 0 0) own × PlanesOk (cut two 1 0) own
unfolding cut tile_end tile_first
own_long = (elim [ Y ↦ refl | Cb ↦ refl | Cr ↦ refl ], elim [ Y ↦ refl | Cb ↦ refl | Cr ↦ refl ])

-- each tile is filtered as if it were alone
tiles_apart : Apart two lent 0 0 own × Apart two lent 1 0 own
tiles_apart = (term3.apart two lent 0 0 left own own_long.0, term3.apart two lent 1 0 right own own_long.1)

-- the count sees what crosses column 16 where the picture is one tile: left of it, three luma samples in each of 16
-- rows, and one sample of Cb and one of Cr in each of 8 rows
crossed : differences two 0 0 (outputs (cut two 0 0) own) (outputs one lent) ≡ 48 + 8 + 8
unfolding verdict cut tile_end tile_first crop rect outputs finished differences differing ◌⊖◌ ◌⊞◌ ◌⊟◌ neg ◌⊠◌ lt ◌>>◌
    clip3 abs nat_of pass_of restored finished_plane kernel window pass slices_open gate luma_filter chroma_filter
    between segment_at activity d_sam decision clip1 near strong_line delta0 side_delta second weak_by weak_line
    luma_line chroma_delta chroma_line cell_at suppressed at table slice_at same_tile average_qp beta_index tc_index
    scaled luma_beta luma_tc table_qpc chroma_qp chroma_tc BETA TC QPC
crossed = refl

-- and the right tile, whatever it holds, does not move the left one
other_left : AcceptedTile other lent 0 0
unfolding verdict lt neg ◌⊖◌
other_left = record { accepted = refl; tile = omega arith }

left_cut : cut two 0 0 ≡ cut other 0 0
unfolding cut tile_end tile_first crop rect
left_cut = refl

unmoved : tile_planes two 0 0 (outputs two lent) ≡ tile_planes other 0 0 (outputs other lent)
unmoved = term3.same_cut two lent 0 0 left other lent 0 0 other_left left_cut
