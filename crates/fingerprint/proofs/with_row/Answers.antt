-- `with_row` meets its contract: each turn takes the next sample of the row.
-- Assumes nothing.
use Rattle.std.proofs.Common.{◌≡◌, ◌*◌, length, ap, ◌∙◌, arith}
use Rattle.picture.specs.Plane.{at}
use Rattle.plane_view.proofs.Known.{inside}
use Rattle.fingerprint.proofs.Rows.{row_all, row_more}
use Rattle.fingerprint.specs.Fnv.{step}
use Rattle.fingerprint.proofs.with_row.Goals as goal
use Rattle.fingerprint.proofs.with_row.Goals.{in-Some, in_default, Joined-sample_at}

-- the view is of a plane
whole : (c : Joined-sample_at) → let v = c.args.plane in length v.samples.now ≡ v.width * v.height
whole c = c.args.plane.whole (omega arith)

pub loop-x-preserved : goal.loop-x-preserved
loop-x-preserved c =
    let v = c.args.plane in
    let x = c.loop-x.x in
    let there = c.sample_at.ensures.plane ∙ inside v.samples.now (whole c) (omega arith) c.requires in
    elim c.match-sample_at.branch [
      | in-Some w ↦
          let same : w.in-Some.sample ≡ at v.samples.now v.width x c.args.y = cc in
          w.sum-is ∙ w.with_word-sum.ensures ∙ ap (step c.loop-x.sum) same
          ∙ row_more v.samples.now v.width v.height (whole c) x c.args.y (omega arith) c.requires c.args.before
          c.loop-x.invariant
      | in_default w ↦ absurd (w.in_default.not-Some _ there)
    ]

pub returns : goal.returns
returns c =
    let v = c.args.plane in
    c.loop-x.invariant ∙ row_all v.samples.now v.width v.height c.args.before c.loop-x.x c.args.y (omega arith)
