-- A plane restored row by row: each row that is lent comes back restored.
use Prim.Native.Nat.{ℕ, ◌+◌, ◌-◌, ◌*◌, ◌/◌, ◌≤◌, ◌<◌}
use mathlib.Core.Path.{◌≡◌, sym, ap, ◌∙◌}
use mathlib.Core.Bool.{Bool}
use mathlib.Core.List.{List}
use native.Mathlib.Nat.{add-mul}
use native.Mathlib.Omega.{arith}
use lib.ListN.{get_or}
use Rattle.filter.specs.declared.Component.{Component}
use Rattle.picture.specs.Plane.{at}
use Rattle.picture.specs.Scale.{from_luma, to_luma, cell_of}
use Rattle.picture.proofs.Index.{row_step}
use Rattle.planes.specs.Rows.{seen, Rows}
use Rattle.planes.proofs.Parts.{part, part_at}
use Rattle.segments.specs.declared.Frame.{Frame}
use Rattle.segments.specs.Sides.{across_for, down_for}
use Rattle.restore.specs.CellRows.{LineRestored}
use Rattle.restore.specs.Restored.{Restorable, restored_for}
use Rattle.restore.proofs.Restored.{cell_of_lem}

-- row r of a list of rows of w samples
abbrev pub row_of : ℕ → ℕ → List ℕ → List ℕ
row_of w r xs = part (r * w) ((r + 1) * w - r * w) xs

-- where row r of h ends
pub row_end : (w h r : ℕ) → r < h → ((r + 1) * w ≡ r * w + w) × (r * w + w ≤ h * w)
row_end w h r less = let s : (r + 1) * w ≡ r * w + 1 * w = add-mul r 1 w in (omega arith, row_step w less)

module _ (k : Component) (f : Frame) {plane original cells : List ℕ} (lent : Restorable k f plane original cells) where
  abbrev width : ℕ
  width = f.cell_columns.0

  abbrev w : ℕ
  w = f.columns

  -- row y, its cells in row `row` of cells with `across` samples each
  module _ (y row across : ℕ) (less : y < f.rows) (er : row ≡ cell_of (to_luma (down_for k) y))
      (ea : across ≡ from_luma (across_for k) 4) where
    columns : w ≡ width * across
    columns = lent.columns_are ∙ ap (λ (n : ℕ). width * n) (sym ea)

    abbrev ends : ((y + 1) * w ≡ y * w + w) × (y * w + w ≤ f.rows * w)
    ends = row_end w f.rows y less

    -- a row that was lent and restored is that row of the plane restored
    pub line_row : (pcm : Bool) (xs ys : List ℕ)
        → LineRestored pcm cells width row across (row_of w y original) (row_of w y xs) ys
        → Rows w y (y + 1) ys (restored_for pcm cells k f (at original w) (seen w y (row_of w y xs)))
    unfolding restored_for at
    line_row pcm xs ys is x y' hx lo hi =
        let e : y' ≡ y = omega arith in
        let z : (y - y) * w + x ≡ x =
        let q : (y - y) * w ≡ 0 * w = ap (λ (n : ℕ). n * w) (omega arith) in omega arith in
        let room = ends in
        let o : get_or (row_of w y original) x 0 ≡ get_or original (y * w + x) 0 =
        part_at (y * w) ((y + 1) * w - y * w) original (omega (arith, lent.original_long)) x (omega arith) in
        let cx : cell_of (to_luma (across_for k) x) ≡ x / across =
        cell_of_lem (across_for k) x lent.sampled ∙ ap (λ (n : ℕ). x / n) (sym ea) in
        rw (e, z, ← o, cx, ← er) (is x (omega (arith, columns)))
