-- Document 01, 'Restoration': "After each pass a held cell has its original samples again", in terms of what the code
-- is given. The Rust's word for held is suppressed. proofs/Restored.antt shows that `restored_for` is `restored` of
-- the filter's definition.
use Rattle.std.specs.Prelude.{ℕ, ◌*◌, ◌/◌, ◌≤◌, ◌<◌, ◌≡◌, Bool, true, false, cond, List, length}
use Rattle.filter.specs.declared.Component.{Component}
use Rattle.picture.specs.Cell.{suppressed, cell_at, cell_number}
use Rattle.picture.specs.Plane.{Plane}
use Rattle.picture.specs.Scale.{from_luma, to_luma, cell_of}
use Rattle.segments.specs.declared.Frame.{Frame}
use Rattle.segments.specs.Sides.{across_for, down_for}

-- a sample of cell n: the original one where the cell is suppressed, else the filtered one
abbrev pub sample_of : Bool → List ℕ → ℕ → ℕ → ℕ → ℕ
sample_of pcm cells n original filtered = cond (suppressed pcm (cell_at cells n)) original filtered

-- the filtered plane F with the samples of O in every suppressed cell. "A chroma sample belongs to the cell of its
-- scaled luma position."
unfoldable pub restored_for : Bool → List ℕ → Component → Frame → Plane → Plane → Plane
restored_for pcm cells k f O F x y =
    sample_of pcm cells
    (cell_number f.cell_columns.0 (cell_of (to_luma (across_for k) x)) (cell_of (to_luma (down_for k) y))) (O x y)
    (F x y)

-- what is lent for a plane: it and its original whole, and the records of all cells that its samples lie in
pub record Restorable (k : Component) (f : Frame) (plane original cells : List ℕ) : Type 0 where
  pub sampled : 0 < from_luma (across_for k) 4
  pub columns_are : f.columns ≡ f.cell_columns.0 * from_luma (across_for k) 4
  pub rows_most : f.rows ≤ 8192
  pub wide : f.cell_columns.0 ≤ 2048
  pub high : f.cell_rows ≤ 2048
  pub down : (y : ℕ) → y < f.rows → to_luma (down_for k) y < 4 * f.cell_rows
  pub plane_long : length plane ≡ f.rows * f.columns
  pub original_long : length original ≡ f.rows * f.columns
  pub cells_long : 8 * (f.cell_rows * f.cell_columns.0) ≤ length cells

-- a suppressed cell among the cell records
pub record SuppressedCell (pcm : Bool) (cells : List ℕ) : Type 0 where
  pub number : ℕ
  pub listed : number < length cells / 8
  pub is : suppressed pcm (cell_at cells number) ≡ true

-- the answer to whether there is one
pub record AnySuppressed (pcm : Bool) (cells : List ℕ) (answer : Bool) : Type 0 where
  pub some : answer ≡ true → SuppressedCell pcm cells
  pub none : answer ≡ false → (n : ℕ) → n < length cells / 8 → suppressed pcm (cell_at cells n) ≡ false
