-- `sample_at` meets its contract: a column and a row of the view have their sample, and it is the plane's.
-- Assumes nothing.
use Rattle.std.proofs.Common.{◌+◌, ◌*◌, ◌<◌, length, lt-ltb, sym, arith}
use Rattle.picture.specs.Plane.{at}
use Rattle.plane_view.proofs.Known.{inside}
use Rattle.plane_view.proofs.Places.{place_of}
use Rattle.plane_view.proofs.PlaneView.sample_at.Goals as goal

pub returns-clause-view : goal.returns-clause-view
unfolding at
returns-clause-view c =
    let view = c.args.self in
    let place : c.args.y * view.width + c.args.x < length view.samples.now =
    omega (arith, view.whole (omega arith), place_of c.if-self-x.false c.if-self-y.false) in
    simp (lt-ltb _ _ c.if-self-x.false, lt-ltb _ _ c.if-self-y.false, lt-ltb _ _ place)

pub returns-clause-plane : goal.returns-clause-plane
unfolding at
returns-clause-plane c =
    let view = c.args.self in
    sym (inside view.samples.now (view.whole (omega arith)) c.if-self-x.false c.if-self-y.false)
