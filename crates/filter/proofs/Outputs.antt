-- What the stage leaves of an accepted picture: the finished planes, whatever was lent; and what stands where in them.
use Prim.Native.Nat.{ℕ, ◌<◌}
use mathlib.Core.Path.{◌≡◌, refl, ap, ◌∙◌}
use mathlib.Core.List.{List}
use lib.ListN.{length}
use Rattle.filter.specs.Finished.{finished_plane, finished, outputs}
use Rattle.picture.specs.Accepted.{PlanesOk}
use Rattle.picture.specs.Causes.{verdict}
use Rattle.picture.specs.Ledger.{acceptance}
use Rattle.picture.specs.Picture.{Picture, Planes, plane_of, plane_width, plane_height}
use Rattle.picture.specs.Plane.{at, table}
use Rattle.picture.specs.Scale.{Component, Y, Cb, Cr}
use Rattle.picture.proofs.Tables.{length-table, at_table}

pub outputs_finished : (p : Picture) (lent : Planes) → verdict p lent ≡ acceptance → outputs p lent ≡ finished p
unfolding outputs
outputs_finished p lent e = rw e

finished_table : (p : Picture) (c : Component)
    → plane_of (finished p) c ≡ table (plane_width p c) (plane_height p c) (finished_plane p c)
unfolding finished
finished_table p Y = refl
finished_table p Cb = refl
finished_table p Cr = refl

pub finished_long : (p : Picture) → PlanesOk p (finished p)
finished_long p c =
    ap length (finished_table p c) ∙ length-table (plane_width p c) (plane_height p c) (finished_plane p c)

pub finished_at : (p : Picture) (c : Component) (x y : ℕ) → x < plane_width p c → y < plane_height p c
    → at (plane_of (finished p) c) (plane_width p c) x y ≡ finished_plane p c x y
finished_at p c x y hx hy =
    ap (λ (l : List ℕ). at l (plane_width p c) x y) (finished_table p c)
    ∙ at_table (plane_width p c) (plane_height p c) (finished_plane p c) x y hx hy
