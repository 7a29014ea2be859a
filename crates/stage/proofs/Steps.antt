-- The steps of one component's plane: a pass and a restoration for each direction.
use Prim.Native.Nat.{ℕ, ◌*◌, ◌%◌, ◌^◌, ◌≤◌}
use mathlib.Core.Path.{◌≡◌, refl, ◌∙◌, subst}
use mathlib.Core.Bool.{Bool}
use mathlib.Core.List.{List}
use mathlib.Core.Logic.{inl, inr}
use native.Mathlib.Nat.{mod-eq_of_lt}
use native.Mathlib.Omega.{arith}
use lib.ListN.{length}
use lib.Pow.{pow_mono}
use Rattle.filter.specs.declared.Component.{Component}
use Rattle.filter.specs.Kernel.{kernel}
use Rattle.filter.specs.Segment.{Direction, vertical, horizontal}
use Rattle.picture.specs.Plane.{Plane, at, table}
use Rattle.planes.specs.Rows.{Holds}
use Rattle.planes.proofs.Bands.{Local, horizontal_local}
use Rattle.planes.proofs.Tables.{holds_table, holds_then}
use Rattle.restore.specs.declared.Restoration.{Restoration}
use Rattle.restore.specs.Restored.{restored_for}
use Rattle.restore.proofs.Restored.{restored_local}
use Rattle.segments.specs.declared.Frame.{Frame}
use Rattle.segments.specs.Ready.{Ready}
use Rattle.strips.specs.Passed.{pass_for}
use Rattle.stage.specs.Plane.{step_for, finished_for, PlaneReady}

-- ---- the CTB size, as the code works it out

pub power : (n : ℕ) → n ≤ 6 → 1 * 2 ^ n % 18446744073709551616 ≡ 2 ^ n
power n h =
    let small : 2 ^ n ≤ 2 ^ 6 = pow_mono {j = 6} h in
    mod-eq_of_lt (omega arith) ∙ omega arith

-- a frame of these parts
pub frame_made : {columns rows cells-across cells-down band : ℕ} {f : Frame} → columns ≡ f.columns → rows ≡ f.rows
    → cells-across ≡ f.cell_columns.0 → cells-down ≡ f.cell_rows → band ≡ f.band
    → record {
      columns = columns;
      rows = rows;
      cell_columns = record { 0 = cells-across };
      cell_rows = cells-down;
      log2_ctb = f.log2_ctb;
      band = band;
    }
    ≡ f
frame_made {f} ec er ea ed eb =
    λ i.
    record {
      columns = ec i;
      rows = er i;
      cell_columns = record { 0 = ea i };
      cell_rows = ed i;
      log2_ctb = f.log2_ctb;
      band = eb i;
    }

-- ---- what is lent stays lent when the plane changes and keeps its length

pub lent_again : {k : Component} {f : Frame} {r : Restoration} {a b original cells slices tcs : List ℕ}
    → length b ≡ length a
    → PlaneReady k f r a original cells slices tcs → PlaneReady k f r b original cells slices tcs
lent_again len l =
    let lent = l.lent in
    record {
      ready = l.ready;
      any = l.any;
      lent =
          record {
            sampled = lent.sampled;
            columns_are = lent.columns_are;
            rows_most = lent.rows_most;
            wide = lent.wide;
            high = lent.high;
            down = lent.down;
            plane_long = len ∙ lent.plane_long;
            original_long = lent.original_long;
            cells_long = lent.cells_long;
          };
    }

-- ---- a pass and the restoration after it

module _ (k : Component) (f : Frame) (pcm : Bool) (original cells slices : List ℕ) where
  -- a plane that holds what the pass leaves, restored
  pub stepped : (d : Direction) (starts s0 s1 s2 : List ℕ)
      → Holds f.columns f.rows s1 (pass_for d k f cells slices starts (at s0 f.columns))
      → Holds f.columns f.rows s2 (restored_for pcm cells k f (at original f.columns) (at s1 f.columns))
      → Holds f.columns f.rows s2 (step_for d k f pcm original cells slices starts (at s0 f.columns))
  stepped d starts s0 s1 s2 passed restored =
      holds_then f.columns f.rows (restored_for pcm cells k f (at original f.columns)) _ s1 s2
      (restored_local _ _ _ _ _ _ _ _) passed
      restored

  -- the horizontal step goes by the samples that the vertical one left
  horizontal_step : {tcs : List ℕ} → Ready k f cells slices tcs → (rows : List ℕ)
      → Local f.columns 0 f.rows (step_for horizontal k f pcm original cells slices rows)
  horizontal_step ready rows P Q same =
      restored_local pcm cells k f (at original f.columns) f.columns 0 f.rows _ _
      (horizontal_local kernel f.columns f.rows 0 f.rows _ ready.columns4 ready.rows4 (inl refl)
      (inr (inl refl)) P Q same)

  pub chain : {tcs : List ℕ} → Ready k f cells slices tcs → (columns rows s0 s1 s2 : List ℕ)
      → s0 ≡ original
      → Holds f.columns f.rows s1 (step_for vertical k f pcm original cells slices columns (at s0 f.columns))
      → Holds f.columns f.rows s2 (step_for horizontal k f pcm original cells slices rows (at s1 f.columns))
      → length s2 ≡ f.columns * f.rows
      → s2 ≡ table f.columns f.rows (finished_for k f pcm original cells slices columns rows)
  unfolding finished_for
  chain ready columns rows s0 s1 s2 copied first second len =
      let F : Plane → Plane = step_for vertical k f pcm original cells slices columns in
      let G : Plane → Plane = step_for horizontal k f pcm original cells slices rows in
      let a : Holds f.columns f.rows s1 (F (at original f.columns)) =
      subst (λ (l : List ℕ). Holds f.columns f.rows s1 (F (at l f.columns))) copied first in
      holds_table _ _ s2 _ len (holds_then f.columns f.rows G _ s1 s2 (horizontal_step ready rows) a second)
