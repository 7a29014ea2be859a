-- What the stage leaves of an accepted picture passes the checks of planes alone (document 02, C-11): the finished
-- planes have their exact lengths, and no sample leaves its range.
use Prim.Native.Nat.{ℕ, zero, suc, ◌*◌, ◌/◌, ◌%◌, ◌≤◌, ◌<◌}
use mathlib.Core.Path.{◌≡◌, sym, subst}
use native.Mathlib.Nat.{div-add-mod', div-lt_iff_lt-mul, mod-lt, mul_comm, mul-zero}
use native.Mathlib.Omega.{arith}
use lib.ListN.{get_or}
use Rattle.filter.specs.Finished.{outputs}
use Rattle.filter.proofs.Outputs.{finished_long, outputs_finished}
use Rattle.picture.specs.Accepted.{PlanesOk, SamplesOk}
use Rattle.picture.specs.Causes.{planes_ledger, verdict}
use Rattle.picture.specs.Ledger.{acceptance, first_of}
use Rattle.picture.specs.Picture.{Picture, Planes, largest, plane_height, plane_of, plane_width, with_planes}
use Rattle.picture.specs.Plane.{at}
use Rattle.picture.proofs.Accepted.{accepted_by, planes_with}
use Rattle.bounded_moves.specs.Pictures.{AcceptedSample}
use Rattle.bounded_moves.proofs.Pictures.{how_far}

-- a plane that has a sample has columns
some_columns : (w h : ℕ) {k : ℕ} → k < h * w → 0 < w
some_columns zero h inside = absurd (omega (arith, mul-zero h))
some_columns (suc w) h inside = omega arith

module _ (p : Picture) (lent : Planes) (e : verdict p lent ≡ acceptance) where
  -- the picture that is asked about
  abbrev q : Picture
  q = with_planes (outputs p lent) p

  long : PlanesOk q (outputs p lent)
  long = subst (PlanesOk p) (sym (outputs_finished p lent e)) (finished_long p)

  -- sample k of a plane is the one of its column and row
  in_range : SamplesOk q
  unfolding at
  in_range c k h =
      let w = plane_width p c in
      let inside : k < plane_height p c * w = omega (arith, long c, mul_comm w (plane_height p c)) in
      let some = some_columns w (plane_height p c) inside in
      let sample : AcceptedSample p lent c (k % w) (k / w) =
      record { accepted = e; column = mod-lt k some; row = (div-lt_iff_lt-mul some).1 inside } in
      subst (λ (i : ℕ). get_or (plane_of (outputs p lent) c) i 0 ≤ largest p.settings c) (div-add-mod' k w)
      (how_far.in_range p lent c (k % w) (k / w) sample)

  pub outputs_checked : first_of (planes_ledger q) ≡ acceptance
  outputs_checked =
      let ok = (accepted_by p lent e).picture in
      planes_with q ok.width ok.height ok.settings long in_range
