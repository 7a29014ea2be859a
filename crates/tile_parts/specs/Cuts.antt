-- A tile's cut by what the code is given: its picture's settings and its luma part.
use Rattle.std.specs.Prelude.{ℕ, ◌+◌, ◌*◌, ◌≡◌, List, length}
use Rattle.filter.specs.Count.{differing}
use Rattle.picture.specs.declared.Settings as Code
use Rattle.picture.specs.Picture.{Planes}
use Rattle.picture.specs.Plane.{Part, at, crop}
use Rattle.picture.specs.Scale.{chroma_across, from_luma, cell_of}
use Rattle.tile_parts.specs.Parts.{Room, chroma_part, bytes_part}

-- the columns of a chroma plane, and the part in it
abbrev pub chroma_width : Code.Settings → ℕ
chroma_width s = from_luma (chroma_across s.chroma_format) s.width

abbrev pub in_chroma : Code.Settings → Part → Part
in_chroma s luma = chroma_part s.chroma_format luma

-- the part of three planes, and of the cell records
abbrev pub part_planes : Code.Settings → Part → Planes → Planes
part_planes s luma p = record {
  y = crop p.y s.width luma;
  cb = crop p.cb (chroma_width s) (in_chroma s luma);
  cr = crop p.cr (chroma_width s) (in_chroma s luma);
}

abbrev pub part_cells : Code.Settings → Part → List ℕ → List ℕ
part_cells s luma cells = crop cells (8 * cell_of s.width) (bytes_part luma)

-- the samples of `own`, planes of the part's size, that differ from the part of `out`
abbrev pub differing_planes : Code.Settings → Part → Planes → Planes → ℕ
differing_planes s luma own out =
    differing (at own.y luma.width) (at out.y s.width) luma
    + differing (at own.cb (in_chroma s luma).width) (at out.cb (chroma_width s)) (in_chroma s luma)
    + differing (at own.cr (in_chroma s luma).width) (at out.cr (chroma_width s)) (in_chroma s luma)

-- the part lies in three planes
pub record Rooms (s : Code.Settings) (luma : Part) (p : Planes) : Type 0 where
  pub y : Room luma s.width p.y
  pub cb : Room (in_chroma s luma) (chroma_width s) p.cb
  pub cr : Room (in_chroma s luma) (chroma_width s) p.cr

-- planes of the part's size
pub record Sized (s : Code.Settings) (luma : Part) (p : Planes) : Type 0 where
  pub y : length p.y ≡ luma.width * luma.height
  pub cb : length p.cb ≡ (in_chroma s luma).width * (in_chroma s luma).height
  pub cr : length p.cr ≡ (in_chroma s luma).width * (in_chroma s luma).height

-- the lists that a cut is made of, and those that it is put into
pub record CutReady (s : Code.Settings) (luma : Part) (from : Planes) (fromCells : List ℕ)
    (to : Planes) (toCells : List ℕ) : Type 0 where
  pub planes_in : Rooms s luma from
  pub cells_in : Room (bytes_part luma) (8 * cell_of s.width) fromCells
  pub planes_own : Sized s luma to
  pub cells_own : length toCells ≡ (bytes_part luma).width * (bytes_part luma).height
