-- An accepted picture has what the passes and the restoration of each of its components need.
use Prim.Native.Nat.{ℕ, zero, suc, ◌*◌, ◌%◌, ◌^◌, ◌≤◌, ◌<◌}
use mathlib.Core.Path.{◌≡◌, refl, ◌∙◌, subst}
use mathlib.Core.Bool.{Bool, true, false, cond}
use mathlib.Core.List.{List}
use native.Mathlib.Nat.{mul_comm}
use native.Mathlib.Omega.{arith}
use borrow.Author.Tests.{ne_eqb}
use lib.Dec.{eqb}
use lib.ListN.{length}
use Rattle.filter.specs.declared.Component as Code
use Rattle.filter.specs.Answer.{Sound}
use Rattle.picture.specs.Accepted.{Accepted, PictureOk}
use Rattle.picture.specs.Cell.{cell_count}
use Rattle.picture.specs.Picture.{Picture, Planes, Settings, plane_of}
use Rattle.picture.specs.Scale.{
  Component,
  Y,
  Cb,
  Cr,
  Sampling,
  whole,
  halved,
  absent,
  sampling_across,
  sampling_down,
  chroma_across,
  chroma_down,
  from_luma,
  to_luma,
  cell_of,
}
use Rattle.picture.proofs.InRange.{cell_slice, cell_qp, cell_bsv, cell_bsh, slice_tc}
use Rattle.restore.specs.declared.Restoration.{Restoration}
use Rattle.restore.specs.Restored.{Restorable, AnySuppressed}
use Rattle.restore.proofs.Restored.{all_cells}
use Rattle.segments.specs.declared.Frame.{Frame}
use Rattle.segments.specs.Pictures.{component_for, frame_for}
use Rattle.segments.specs.Ready.{Ready}
use Rattle.segments.specs.Sides.{across_for, down_for}
use Rattle.stage.specs.Plane.{PlaneReady}
use Rattle.thresholds.specs.LumaTable.{TcTable}

-- ---- one direction

fours : (s : Sampling) (n : ℕ) → n % 8 ≡ 0 → from_luma s n % 4 ≡ 0
fours whole n h = omega arith
fours halved n h = omega arith
fours absent n h = omega arith

no_more : (s : Sampling) (n : ℕ) → from_luma s n ≤ n
no_more whole n = omega arith
no_more halved n = omega arith
no_more absent n = omega arith

inside : (s : Sampling) (n x : ℕ) → n % 8 ≡ 0 → x < from_luma s n → to_luma s x < 4 * cell_of n
inside whole n x h k = omega arith
inside halved n x h k = omega arith
inside absent n x h k = absurd (omega arith)

some_rows : (s : Sampling) (n : ℕ) → 0 < from_luma s 4 → 16 ≤ n → 0 < from_luma s n
some_rows whole n h k = omega arith
some_rows halved n h k = omega arith
some_rows absent n h k = absurd (omega arith)

-- CTB sizes 16, 32 and 64
sizes : (n : ℕ) → 4 ≤ n → n ≤ 6 → (2 ^ n % 8 ≡ 0) × (16 ≤ 2 ^ n) × (2 ^ n ≤ 64)
sizes zero h k = absurd (omega arith)
sizes (suc zero) h k = absurd (omega arith)
sizes (suc (suc zero)) h k = absurd (omega arith)
sizes (suc (suc (suc zero))) h k = absurd (omega arith)
sizes (suc (suc (suc (suc zero)))) h k = omega arith
sizes (suc (suc (suc (suc (suc zero))))) h k = omega arith
sizes (suc (suc (suc (suc (suc (suc zero)))))) h k = omega arith
sizes (suc (suc (suc (suc (suc (suc (suc n))))))) h k = absurd (omega arith)

-- ---- a component that the picture has: luma, or chroma in a format that has it

abbrev pub Present : Settings → Component → Type 0
Present t Y = Unit {0}
Present t Cb = 0 < t.format
Present t Cr = 0 < t.format

-- a cell has samples there each way
one_of : (t : Bool) (a b : Sampling) → 0 < from_luma a 4 → 0 < from_luma b 4 → 0 < from_luma (cond t a b) 4
one_of true a b ha hb = ha
one_of false a b ha hb = hb

chroma_across_lem : (format : ℕ) → 0 < format → 0 < from_luma (chroma_across format) 4
chroma_across_lem format h =
    simp (ne_eqb format 0 (λ z. omega arith)) (one_of (eqb format 3) whole halved (omega arith) (omega arith))

chroma_down_lem : (format : ℕ) → 0 < format → 0 < from_luma (chroma_down format) 4
chroma_down_lem format h =
    simp (ne_eqb format 0 (λ z. omega arith)) (one_of (eqb format 1) halved whole (omega arith) (omega arith))

sampled : (t : Settings) (c : Component) → Present t c
    → (0 < from_luma (sampling_across t.format c) 4) × (0 < from_luma (sampling_down t.format c) 4)
sampled t Y h = (omega arith, omega arith)
sampled t Cb h = (chroma_across_lem t.format h, chroma_down_lem t.format h)
sampled t Cr h = (chroma_across_lem t.format h, chroma_down_lem t.format h)

-- ---- a component's struct and the definition's

across_is : (t : Settings) (o : ℕ) (c : Component) → sampling_across t.format c ≡ across_for (component_for t o c)
across_is t o Y = refl
across_is t o Cb = refl
across_is t o Cr = refl

down_is : (t : Settings) (o : ℕ) (c : Component) → sampling_down t.format c ≡ down_for (component_for t o c)
down_is t o Y = refl
down_is t o Cb = refl
down_is t o Cr = refl

module _ (p : Picture) (ok : PictureOk p) (o : ℕ) (c : Component) (present : Present p.settings c) where
  abbrev t : Settings
  t = p.settings

  -- what holds of the definition's samplings holds of the struct's
  by_across : (P : Sampling → Type 0) → P (sampling_across t.format c) → P (across_for (component_for t o c))
  by_across P h = subst P (across_is t o c) h

  by_down : (P : Sampling → Type 0) → P (sampling_down t.format c) → P (down_for (component_for t o c))
  by_down P h = subst P (down_is t o c) h

  rows_inside : (y : ℕ) → y < (frame_for p c).rows → to_luma (down_for (component_for t o c)) y < 4 * cell_of p.height
  rows_inside y h =
      by_down (λ s. to_luma s y < 4 * cell_of p.height)
      (inside (sampling_down t.format c) p.height y ok.height.eights h)

  columns_inside : (x : ℕ) → x < (frame_for p c).columns
      → to_luma (across_for (component_for t o c)) x < 4 * cell_of p.width
  columns_inside x h =
      by_across (λ s. to_luma s x < 4 * cell_of p.width)
      (inside (sampling_across t.format c) p.width x ok.width.eights h)

  cells_long : 8 * (cell_of p.height * cell_of p.width) ≡ length p.cells
  cells_long = omega (arith, ok.cells_long, mul_comm (cell_of p.height) (cell_of p.width))

  -- a cell by the rows of cells is one of the picture's
  counted : {n : ℕ} → n < cell_of p.height * cell_of p.width → n < cell_count p
  counted h = omega (arith, mul_comm (cell_of p.height) (cell_of p.width))

  rows_most : (frame_for p c).rows ≤ 8192
  rows_most = omega (arith, ok.height.most, no_more (sampling_down t.format c) p.height)

  wide : cell_of p.width ≤ 2048
  wide = omega (arith, ok.width.most)

  high : cell_of p.height ≤ 2048
  high = omega (arith, ok.height.most)

  pub ready : {tcs : List ℕ} → TcTable tcs → Ready (component_for t o c) (frame_for p c) p.cells p.slices tcs
  ready table =
      let a : Sampling = sampling_across t.format c in
      let d : Sampling = sampling_down t.format c in
      let z = sizes t.log2_ctb ok.settings.ctb_low ok.settings.ctb_high in
      record {
        sound = sound c;
        ctb = ok.settings.ctb_high;
        columns4 = fours a p.width ok.width.eights;
        rows4 = fours d p.height ok.height.eights;
        columns_most = omega (arith, ok.width.most, no_more a p.width);
        rows_most = rows_most;
        band4 = fours d (2 ^ t.log2_ctb) z.0;
        band_some = some_rows d (2 ^ t.log2_ctb) (sampled t c present).1 z.1;
        band_most = omega (arith, z, no_more d (2 ^ t.log2_ctb));
        wide = wide;
        high = high;
        across = columns_inside;
        down = rows_inside;
        cells_long = omega (arith, cells_long);
        known = λ n h. cell_slice p ok n (counted h);
        qp_most = λ n h. cell_qp p ok n (counted h);
        bsv_most = λ n h. cell_bsv p ok n (counted h);
        bsh_most = λ n h. cell_bsh p ok n (counted h);
        tc_most = slice_tc p ok;
        tc_table = table;
      }
    where
      sound : (c : Component) → Sound (component_for t o c)
      sound Y = record { depth_low = ok.settings.luma_low; depth_high = ok.settings.luma_high; largest_is = refl }
      sound Cb =
          record { depth_low = ok.settings.chroma_low; depth_high = ok.settings.chroma_high; largest_is = refl }
      sound Cr =
          record { depth_low = ok.settings.chroma_low; depth_high = ok.settings.chroma_high; largest_is = refl }

  pub restorable : (out : List ℕ) → length out ≡ (frame_for p c).columns * (frame_for p c).rows
      → Restorable (component_for t o c) (frame_for p c) out (plane_of p.originals c) p.cells
  restorable out long =
      let a : Sampling = sampling_across t.format c in
      let s = (sampled t c present).0 in
      record {
        sampled = by_across (λ s. 0 < from_luma s 4) s;
        columns_are =
            by_across (λ s. (frame_for p c).columns ≡ cell_of p.width * from_luma s 4)
            (all_cells a p.width s ok.width.eights);
        rows_most = rows_most;
        wide = wide;
        high = high;
        down = rows_inside;
        plane_long = long ∙ mul_comm (frame_for p c).columns (frame_for p c).rows;
        original_long = ok.originals c ∙ mul_comm (frame_for p c).columns (frame_for p c).rows;
        cells_long = omega (arith, cells_long);
      }

-- what a component's plane is given: a struct and a frame that were worked out, and the restoration of the cells
pub plane_ready : (p : Picture) (outputs : Planes) → Accepted p outputs → (o : ℕ) (c : Component)
    → Present p.settings c
    → {k : Code.Component} → k ≡ component_for p.settings o c → {f : Frame} → f ≡ frame_for p c → {r : Restoration}
    → (r.pcm ≡ p.settings.pcm_loop_filter_disabled)
    × AnySuppressed p.settings.pcm_loop_filter_disabled p.cells r.any
    → {tcs : List ℕ} → TcTable tcs
    → PlaneReady k f r (plane_of outputs c) (plane_of p.originals c) p.cells p.slices tcs
plane_ready p outputs ok o c present {k} ek {f} ef {r} told table =
    rw (ek, ef)
    (record {
      ready = ready p ok.picture o c present table;
      lent = restorable p ok.picture o c present (plane_of outputs c) (ok.outputs_long c);
      any = rw told.0 told.1;
    })
