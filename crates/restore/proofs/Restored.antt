-- Restoration by cells, for every sampling of a plane: a sample's cell, planes with no suppressed cell, and the
-- filter's definition.
use Prim.Native.Nat.{ℕ, ◌*◌, ◌/◌, ◌%◌, ◌≤◌, ◌<◌}
use mathlib.Core.Path.{◌≡◌, refl, sym, ap}
use mathlib.Core.Bool.{Bool, false}
use mathlib.Core.List.{List}
use native.Mathlib.Nat.{div-lt_iff_lt-mul}
use native.Mathlib.Omega.{arith}
use lib.ListN.{length}
use Rattle.filter.specs.declared.Component as Code
use Rattle.filter.specs.Finished.{restored}
use Rattle.picture.specs.Cell.{suppressed, cell_at, cell_number}
use Rattle.picture.specs.Picture.{Picture, original}
use Rattle.picture.specs.Plane.{Plane, at}
use Rattle.picture.specs.Scale.{Component, Y, Cb, Cr, Sampling, whole, halved, absent, from_luma, to_luma, cell_of}
use Rattle.picture.proofs.Index.{within_rows}
use Rattle.planes.specs.Rows.{Holds}
use Rattle.planes.proofs.Bands.{Local}
use Rattle.segments.specs.declared.Frame.{Frame}
use Rattle.segments.specs.Pictures.{component_for, frame_for}
use Rattle.segments.specs.Sides.{across_for, down_for}
use Rattle.restore.specs.Restored.{sample_of, Restorable, restored_for}

-- ---- a cell in a plane that has samples: from_luma s 4 of them each way

-- the cell of a sample
pub cell_of_lem : (s : Sampling) (x : ℕ) → 0 < from_luma s 4 → cell_of (to_luma s x) ≡ x / from_luma s 4
cell_of_lem whole x h = refl
cell_of_lem halved x h = omega arith
cell_of_lem absent x h = absurd (omega arith)

-- the plane's samples each way, cell by cell
pub all_cells : (s : Sampling) (n : ℕ) → 0 < from_luma s 4 → n % 8 ≡ 0 → from_luma s n ≡ cell_of n * from_luma s 4
all_cells whole n h e = omega arith
all_cells halved n h e = omega arith
all_cells absent n h e = absurd (omega arith)

-- a cell has two samples or four each way
pub few_samples : (s : Sampling) → 0 < from_luma s 4 → (2 ≤ from_luma s 4) × (from_luma s 4 ≤ 4)
few_samples whole h = omega arith
few_samples halved h = omega arith
few_samples absent h = absurd (omega arith)

-- ---- restoration goes sample by sample
pub restored_local : (pcm : Bool) (cells : List ℕ) (k : Code.Component) (f : Frame) (O : Plane) (w r q : ℕ)
    → Local w r q (restored_for pcm cells k f O)
unfolding restored_for
restored_local pcm cells k f O w r q P Q same x y d =
    ap
    (sample_of pcm cells
    (cell_number f.cell_columns.0 (cell_of (to_luma (across_for k) x)) (cell_of (to_luma (down_for k) y))) (O x y))
    (same x y d)

-- ---- no suppressed cell, nothing to restore

module _ (k : Code.Component) (f : Frame) {plane original cells : List ℕ} (lent : Restorable k f plane original cells)
    (pcm : Bool)
    (none : (n : ℕ) → n < length cells / 8 → suppressed pcm (cell_at cells n) ≡ false) where
  pub none_restored : (O F : Plane) (x y : ℕ) → x < f.columns → y < f.rows
      → restored_for pcm cells k f O F x y ≡ F x y
  unfolding restored_for
  none_restored O F x y hx hy =
      let a : ℕ = cell_of (to_luma (across_for k) x) in
      let b : ℕ = cell_of (to_luma (down_for k) y) in
      let w : ℕ = f.cell_columns.0 in
      let ha : a < w =
      rw (cell_of_lem (across_for k) x lent.sampled)
      ((div-lt_iff_lt-mul lent.sampled).1 (omega (arith, lent.columns_are))) in
      let inside : cell_number w a b < f.cell_rows * w =
      within_rows w f.cell_rows b a (omega (arith, lent.down y hy)) ha in
      rw (none (cell_number w a b) (omega (arith, lent.cells_long)))

  -- so the plane is restored as it is
  pub restored_already : Holds f.columns f.rows plane
      (restored_for pcm cells k f (at original f.columns) (at plane f.columns))
  restored_already x y hx hy = sym (none_restored (at original f.columns) (at plane f.columns) x y hx hy)

-- ---- the filter's definition

module _ (p : Picture) (o : ℕ) where
  pub restored_is : (c : Component) (P : Plane)
      → restored p c P
      ≡ restored_for p.settings.pcm_loop_filter_disabled p.cells (component_for p.settings o c) (frame_for p c)
      (original p c) P
  unfolding restored restored_for
  restored_is Y P = refl
  restored_is Cb P = refl
  restored_is Cr P = refl
