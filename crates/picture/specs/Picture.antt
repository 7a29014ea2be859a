-- Document 01, 'What a sheet consists of': a picture is its sheet.
use Rattle.std.specs.Prelude.{ℕ, ◌^◌, Bool, List, ℤ}
use Rattle.ints.specs.Sample.{largest_at}
use Rattle.picture.specs.Plane.{Plane, at}
use Rattle.picture.specs.Scale.{Component, Y, Cb, Cr, sampling_across, sampling_down, from_luma}

-- "Chroma format", "Luma and chroma depth", "log2 of the CTB size", "Cb and Cr offsets", "the switch
-- pcm_loop_filter_disabled"
pub record Settings : Type 0 where
  pub format : ℕ
  pub luma_depth : ℕ
  pub chroma_depth : ℕ
  pub log2_ctb : ℕ
  pub cb_offset : ℤ
  pub cr_offset : ℤ
  pub pcm_loop_filter_disabled : Bool

-- three planes, each a list of rows: "Three original planes, read only, and three output planes of the same lengths"
pub record Planes : Type 0 where
  pub y : List ℕ
  pub cb : List ℕ
  pub cr : List ℕ

-- cells: 8 bytes for each 4 by 4 luma block, row by row (Cell.antt); slices: 4 bytes for each slice (Slice.antt);
-- columns and rows: "Tile column starts and row starts, in CTBs" (Tile.antt)
pub record Picture : Type 0 where
  pub width : ℕ
  pub height : ℕ
  pub settings : Settings
  pub originals : Planes
  pub cells : List ℕ
  pub slices : List ℕ
  pub columns : List ℕ
  pub rows : List ℕ

-- the same picture with other cell and slice lists
abbrev pub with_lists : List ℕ → List ℕ → Picture → Picture
with_lists cells slices p = record {
  width = p.width;
  height = p.height;
  settings = p.settings;
  originals = p.originals;
  cells = cells;
  slices = slices;
  columns = p.columns;
  rows = p.rows;
}

-- the same picture with other planes
abbrev pub with_planes : Planes → Picture → Picture
with_planes planes p = record {
  width = p.width;
  height = p.height;
  settings = p.settings;
  originals = planes;
  cells = p.cells;
  slices = p.slices;
  columns = p.columns;
  rows = p.rows;
}

abbrev pub plane_of : Planes → Component → List ℕ
plane_of p Y = p.y
plane_of p Cb = p.cb
plane_of p Cr = p.cr

-- a component's columns in n luma columns, and its rows in n luma rows
abbrev pub across : Settings → Component → ℕ → ℕ
across t c n = from_luma (sampling_across t.format c) n

abbrev pub down : Settings → Component → ℕ → ℕ
down t c n = from_luma (sampling_down t.format c) n

-- the width and the height of a component's plane
abbrev pub plane_width : Picture → Component → ℕ
plane_width p c = across p.settings c p.width

abbrev pub plane_height : Picture → Component → ℕ
plane_height p c = down p.settings c p.height

abbrev pub depth_of : Settings → Component → ℕ
depth_of t Y = t.luma_depth
depth_of t Cb = t.chroma_depth
depth_of t Cr = t.chroma_depth

abbrev pub largest : Settings → Component → ℕ
largest t c = largest_at (depth_of t c)

-- a component's original samples
abbrev pub original : Picture → Component → Plane
original p c = at (plane_of p.originals c) (plane_width p c)

-- the CTB size
abbrev pub ctb_size : Settings → ℕ
ctb_size t = 2 ^ t.log2_ctb
