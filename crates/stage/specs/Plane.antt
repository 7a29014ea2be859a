-- One component's plane from the original to the finished samples, by what the code is given.
use Rattle.std.specs.Prelude.{Bool, List, ℕ}
use Rattle.filter.specs.declared.Component.{Component}
use Rattle.filter.specs.Segment.{Direction, vertical, horizontal}
use Rattle.picture.specs.Plane.{Plane, at}
use Rattle.restore.specs.declared.Restoration.{Restoration}
use Rattle.restore.specs.Restored.{Restorable, AnySuppressed, restored_for}
use Rattle.segments.specs.declared.Frame.{Frame}
use Rattle.segments.specs.Ready.{Ready}
use Rattle.strips.specs.Passed.{pass_for}

-- a pass with the tile starts of its direction, and the restoration after it
abbrev pub step_for : Direction → Component → Frame → Bool → List ℕ → List ℕ → List ℕ → List ℕ → Plane → Plane
step_for d k f pcm original cells slices starts P =
    restored_for pcm cells k f (at original f.columns) (pass_for d k f cells slices starts P)

-- from the original: vertical edges, restoration, horizontal edges on that result, restoration
unfoldable pub finished_for : Component → Frame → Bool → List ℕ → List ℕ → List ℕ → List ℕ → List ℕ → Plane
finished_for k f pcm original cells slices columns rows =
    step_for horizontal k f pcm original cells slices rows
    (step_for vertical k f pcm original cells slices columns (at original f.columns))

-- what a component's plane is finished with, of an accepted picture
pub record PlaneReady (k : Component) (f : Frame) (r : Restoration)
    (out original cells slices tcs : List ℕ) : Type 0 where
  pub ready : Ready k f cells slices tcs
  pub lent : Restorable k f out original cells
  pub any : AnySuppressed r.pcm cells r.any
