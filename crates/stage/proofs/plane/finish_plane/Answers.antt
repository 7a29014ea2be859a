-- `finish_plane` meets its contract: `chain` puts the copy, the passes and the restorations together.
-- Assumes nothing.
use native.Mathlib.Nat.{mul_comm}
use native.Mathlib.Omega.{arith}
use Rattle.filter.specs.Segment.{vertical, horizontal}
use Rattle.stage.proofs.Steps.{lent_again, stepped, chain}
use Rattle.stage.proofs.plane.finish_plane.Goals as goal

pub restore-requires : goal.restore-requires
restore-requires c =
    record { restorable = (lent_again (omega arith) c.requires).lent; any_suppressed = c.requires.any }

pub restore-requires-2 : goal.restore-requires-2
restore-requires-2 c =
    record { restorable = (lent_again (omega arith) c.requires).lent; any_suppressed = c.requires.any }

pub returns : goal.returns
returns c =
    let a = c.args in
    let p = a.picture.now in
    let o = a.original.now in
    let first =
    stepped a.k a.f _ o p.cells.now p.slices.now vertical p.columns.now c.copy_from_slice.new.self
    c.vertical_pass.new.s c.restore.new.plane
    c.vertical_pass.ensures c.restore.ensures in
    let second =
    stepped a.k a.f _ o p.cells.now p.slices.now horizontal p.rows.now c.restore.new.plane
    c.horizontal_pass.new.s c.restore-2.new.plane
    c.horizontal_pass.ensures c.restore-2.ensures in
    chain a.k a.f _ o p.cells.now p.slices.now c.requires.ready p.columns.now p.rows.now
    c.copy_from_slice.new.self c.restore.new.plane c.restore-2.new.plane
    c.copy_from_slice.ensures.after first second
    (omega (arith, c.requires.lent.plane_long, mul_comm a.f.rows a.f.columns))
