-- A cut filtered as a picture alone, by what the code is given: its picture's settings and its luma part.
use Rattle.std.specs.Prelude.{ℕ, ◌≤◌, List, [], ◌∷◌}
use Rattle.filter.specs.Finished.{outputs}
use Rattle.picture.specs.declared.Settings as Code
use Rattle.picture.specs.Given.{picture_of}
use Rattle.picture.specs.Picture.{Picture, Planes}
use Rattle.picture.specs.Plane.{Part}
use Rattle.tile_parts.specs.Cuts.{CutReady, Rooms, Sized, differing_planes, part_cells, part_planes}
use Rattle.tile_check.specs.Answer.{Scratch, scratch}

-- a picture's settings at the sizes of a part
abbrev pub alone : Code.Settings → Part → Code.Settings
alone s luma = record {
  width = luma.width;
  height = luma.height;
  chroma_format = s.chroma_format;
  luma_depth = s.luma_depth;
  chroma_depth = s.chroma_depth;
  log2_ctb = s.log2_ctb;
  cb_qp_offset = s.cb_qp_offset;
  cr_qp_offset = s.cr_qp_offset;
  pcm_loop_filter_disabled = s.pcm_loop_filter_disabled;
}

-- a picture of one tile
abbrev pub one_tile : Code.Settings → Planes → List ℕ → List ℕ → Picture
one_tile s originals cells slices = picture_of s originals cells slices (0 ∷ []) (0 ∷ [])

-- the part of a picture's originals and cells, as a picture of one tile
abbrev pub part_alone : Code.Settings → Part → Planes → List ℕ → List ℕ → Picture
part_alone s luma originals cells slices =
    one_tile (alone s luma) (part_planes s luma originals) (part_cells s luma cells) slices

-- the lists of a part once it is cut and filtered alone; `own` are the output planes lent for it
abbrev pub filtered_alone : Code.Settings → Part → Planes → List ℕ → List ℕ → Planes → Scratch
filtered_alone s luma originals cells slices own =
    scratch (part_planes s luma originals) (part_cells s luma cells)
    (outputs (part_alone s luma originals cells slices) own)

-- the samples in which the part filtered alone differs from the part of `out`
abbrev pub differing_alone : Code.Settings → Part → Planes → List ℕ → List ℕ → Planes → Planes → ℕ
differing_alone s luma originals cells slices own out =
    differing_planes s luma (outputs (part_alone s luma originals cells slices) own) out

-- a part no larger than a picture may be, in lists that are long enough for it, with lists of its own size
pub record CompareReady (s : Code.Settings) (luma : Part) (originals : Planes) (cells : List ℕ) (out : Planes)
    (own : Scratch) : Type 0 where
  pub wide : luma.width ≤ 8192
  pub high : luma.height ≤ 8192
  pub ready : CutReady s luma originals cells own.originals own.cells
  pub outputs_in : Rooms s luma out
  pub outputs_own : Sized s luma own.own
