-- What a pass may rely on: the facts of an accepted picture that its segments and its loops need.
use Rattle.std.specs.Prelude.{ℕ, ◌+◌, ◌*◌, ◌%◌, ◌≤◌, ◌<◌, ◌≡◌, List, length}
use Rattle.filter.specs.declared.Component.{Component}
use Rattle.filter.specs.Answer.{Sound}
use Rattle.picture.specs.Cell.{cell_at}
use Rattle.picture.specs.Scale.{to_luma}
use Rattle.picture.specs.Slice.{slice_at, slice_count}
use Rattle.segments.specs.declared.Frame.{Frame}
use Rattle.segments.specs.Sides.{across_for, down_for}
use Rattle.thresholds.specs.LumaTable.{TcTable}

pub record Ready (k : Component) (f : Frame) (cells slices tcs : List ℕ) : Type 0 where
  pub sound : Sound k
  pub ctb : f.log2_ctb ≤ 6
  -- the plane's size, in its own samples, and the height of a band
  pub columns4 : f.columns % 4 ≡ 0
  pub rows4 : f.rows % 4 ≡ 0
  pub columns_most : f.columns ≤ 8192
  pub rows_most : f.rows ≤ 8192
  pub band4 : f.band % 4 ≡ 0
  pub band_some : 0 < f.band
  pub band_most : f.band ≤ 64
  -- the picture's size in cells, and each sample's cell inside it
  pub wide : f.cell_columns.0 ≤ 2048
  pub high : f.cell_rows ≤ 2048
  pub across : (x : ℕ) → x < f.columns → to_luma (across_for k) x < 4 * f.cell_columns.0
  pub down : (y : ℕ) → y < f.rows → to_luma (down_for k) y < 4 * f.cell_rows
  pub cells_long : 8 * (f.cell_rows * f.cell_columns.0) ≤ length cells
  pub known : (n : ℕ) → n < f.cell_rows * f.cell_columns.0 → (cell_at cells n).slice < slice_count slices
  -- the cells and the slices in range, a QP's byte being 64 more; and the table of the luma tc
  pub qp_most : (n : ℕ) → n < f.cell_rows * f.cell_columns.0 → (cell_at cells n).qp ≤ 64 + 51
  pub bsv_most : (n : ℕ) → n < f.cell_rows * f.cell_columns.0 → (cell_at cells n).bsv ≤ 2
  pub bsh_most : (n : ℕ) → n < f.cell_rows * f.cell_columns.0 → (cell_at cells n).bsh ≤ 2
  pub tc_most : (n : ℕ) → n < slice_count slices → (slice_at slices n).tc ≤ 12
  pub tc_table : TcTable tcs
