-- What the code leaves in a component's plane is the definition's finished plane.
use Prim.Native.Nat.{ℕ}
use mathlib.Core.Path.{◌≡◌, refl, sym, ap, ◌∙◌, fun_ext}
use mathlib.Core.Option.{Option}
use Rattle.filter.specs.Finished.{pass_of, restored, finished_plane}
use Rattle.filter.specs.Kernel.{Filter, kernel}
use Rattle.filter.specs.Pass.{pass}
use Rattle.filter.specs.Segment.{Direction, vertical, horizontal}
use Rattle.picture.specs.Picture.{Picture, Settings, plane_of, plane_width, plane_height, original}
use Rattle.picture.specs.Plane.{Plane}
use Rattle.picture.specs.Scale.{Component}
use Rattle.planes.specs.Rows.{crosswise}
use Rattle.restore.specs.Restored.{restored_for}
use Rattle.restore.proofs.Restored.{restored_is}
use Rattle.segments.specs.Pictures.{component_for, OffsetIs, frame_for}
use Rattle.segments.proofs.Pictures.{starts_of, segment_is}
use Rattle.strips.specs.Passed.{pass_for}
use Rattle.stage.specs.Plane.{step_for, finished_for}

module _ (p : Picture) (o : ℕ) (c : Component) (i : OffsetIs p.settings o c) where
  abbrev t : Settings
  t = p.settings

  pass_is : (d : Direction) (P : Plane)
      → pass_of p c d P ≡ pass_for d (component_for t o c) (frame_for p c) p.cells p.slices (starts_of p d) P
  unfolding pass_of
  pass_is vertical P =
      ap (λ (s : ℕ → ℕ → Option Filter). pass kernel (plane_width p c) s P)
      (fun_ext (λ e. fun_ext (λ l. segment_is p o c i vertical e l)))
  pass_is horizontal P =
      ap (λ (s : ℕ → ℕ → Option Filter). crosswise kernel (plane_height p c) s P)
      (fun_ext (λ e. fun_ext (λ l. segment_is p o c i horizontal e l)))

  -- one of the two steps, on planes that are the same
  step_is : (d : Direction) (P Q : Plane) → P ≡ Q
      → restored p c (pass_of p c d P)
      ≡ step_for d (component_for t o c) (frame_for p c) t.pcm_loop_filter_disabled (plane_of p.originals c)
      p.cells p.slices
      (starts_of p d) Q
  step_is d P Q e = restored_is p o c (pass_of p c d P) ∙ ap R (pass_is d P ∙ ap F e)
    where
      F : Plane → Plane
      F = pass_for d (component_for t o c) (frame_for p c) p.cells p.slices (starts_of p d)

      R : Plane → Plane
      R = restored_for t.pcm_loop_filter_disabled p.cells (component_for t o c) (frame_for p c) (original p c)

  pub finished_is :
      finished_for (component_for t o c) (frame_for p c) t.pcm_loop_filter_disabled (plane_of p.originals c)
      p.cells p.slices
      p.columns p.rows
      ≡ finished_plane p c
  unfolding finished_for finished_plane
  finished_is = sym (step_is horizontal _ _ (step_is vertical _ _ refl))
