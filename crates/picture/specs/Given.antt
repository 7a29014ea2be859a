-- What a caller lends as a picture: the settings by value and the lists. The code's struct Settings holds the sizes
-- too.
use Rattle.std.specs.Prelude.{ℕ, false, List, [], pos}
use Rattle.picture.specs.declared.Settings as Code
use Rattle.picture.specs.Picture.{Picture, Planes, Settings}

abbrev pub settings_of : Code.Settings → Settings
settings_of s = record {
  format = s.chroma_format;
  luma_depth = s.luma_depth;
  chroma_depth = s.chroma_depth;
  log2_ctb = s.log2_ctb;
  cb_offset = s.cb_qp_offset;
  cr_offset = s.cr_qp_offset;
  pcm_loop_filter_disabled = s.pcm_loop_filter_disabled;
}

abbrev pub planes_of : List ℕ → List ℕ → List ℕ → Planes
planes_of y cb cr = record { y = y; cb = cb; cr = cr }

-- the settings; the original planes; the cell, slice, tile column and tile row lists
abbrev pub picture_of : Code.Settings → Planes → List ℕ → List ℕ → List ℕ → List ℕ → Picture
picture_of s originals cells slices columns rows = record {
  width = s.width;
  height = s.height;
  settings = settings_of s;
  originals = originals;
  cells = cells;
  slices = slices;
  columns = columns;
  rows = rows;
}

-- a picture of the settings and the planes, for what goes by them and by no other list
abbrev pub of_planes : Code.Settings → Planes → Picture
of_planes s originals = picture_of s originals [] [] [] []

-- a picture of the settings alone
abbrev pub bare : Code.Settings → Picture
bare s = of_planes s (planes_of [] [] [])

-- planes with their sizes, format and depths, and nothing else: what goes by these goes by the picture that has 0 and
-- empty lists for all the rest
abbrev pub alone : ℕ → ℕ → ℕ → ℕ → ℕ → Planes → Picture
alone width height format luma chroma planes = record {
  width = width;
  height = height;
  settings =
      record {
        format = format;
        luma_depth = luma;
        chroma_depth = chroma;
        log2_ctb = 0;
        cb_offset = pos 0;
        cr_offset = pos 0;
        pcm_loop_filter_disabled = false;
      };
  originals = planes;
  cells = [];
  slices = [];
  columns = [];
  rows = [];
}
