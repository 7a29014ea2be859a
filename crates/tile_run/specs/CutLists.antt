-- How long the lists are that are lent for a tile's cut. oracle/README.md: "the first tile with each of the lists
-- lent for its cut (1 to 3 the originals, 4 the cells, 5 to 7 the outputs) one too short, and, by a number 7 higher,
-- one too long". No list is longer than the program's own: "40,000 samples to a plane, 20,000 cell bytes".
use Rattle.std.specs.Prelude.{ℕ, ◌+◌, ◌-◌, ◌*◌, min, cond, eqb}
use Rattle.picture.specs.Scale.{chroma_across, chroma_down, from_luma, cell_of}
use Rattle.tile_parts.specs.declared.CutSize.{CutSize}
use Rattle.tile_run.specs.declared.LentSamples.{LentSamples}

-- the samples of a plane, and the bytes of the cells of a luma plane
abbrev pub plane_samples : CutSize → ℕ
plane_samples size = min (size.width * size.height) 40000

abbrev pub cell_bytes : CutSize → ℕ
cell_bytes size = min (8 * (cell_of size.width * cell_of size.height)) 20000

-- a luma plane's size in a chroma plane
abbrev pub chroma_size : ℕ → CutSize → CutSize
chroma_size format size = record {
  width = from_luma (chroma_across format) size.width;
  height = from_luma (chroma_down format) size.height;
}

-- one less, or one more where there is none to lose
abbrev pub one_off : ℕ → ℕ
one_off exact = cond (eqb exact 0) 1 (exact - 1)

-- the length of a list that has `exact` entries and room for `most`: one off where `wrong` is its number, one more
-- where that is seven more and there is room, else the exact one
unfoldable pub length_of : ℕ → ℕ → ℕ → ℕ → ℕ
length_of list exact wrong most =
    cond (eqb wrong list) (one_off exact) (cond (eqb wrong (list + 7)) (min (exact + 1) most) exact)

-- the lists of three planes, of which `first` is the first one's number
unfoldable pub lent_planes : ℕ → ℕ → CutSize → ℕ → LentSamples
lent_planes first format size wrong = record {
  y = length_of first (plane_samples size) wrong 40000;
  cb = length_of (first + 1) (plane_samples (chroma_size format size)) wrong 40000;
  cr = length_of (first + 2) (plane_samples (chroma_size format size)) wrong 40000;
}

-- the cells' list
unfoldable pub lent_cells : CutSize → ℕ → ℕ
lent_cells size wrong = length_of 4 (cell_bytes size) wrong 20000
