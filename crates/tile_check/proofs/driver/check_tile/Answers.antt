-- `check_tile` meets its contract: a refusal, or the tile compared, and what the lists hold after it; and by term 3 no
-- sample differs.
-- Assumes nothing.
use mathlib.Core.Path.{ap, ◌∙◌}
use native.Mathlib.Omega.{arith}
use Rattle.std.proofs.lemmas.Result.{err_from_is_err_and}
use Rattle.picture.specs.Given.{planes_of}
use Rattle.picture.specs.Lent.{picture_lent}
use Rattle.picture.specs.Picture.{Picture, Planes}
use Rattle.tile_check.specs.Answer.{Scratch, told, told_refusal}
use Rattle.tile_check.specs.Lent.{scratch_of}
use Rattle.tile_check.proofs.Outcomes.{
  accepted_still,
  after_is,
  none_differs,
  outcome_is,
  refusal_is,
  refusal_leaves,
}
use Rattle.tile_check.proofs.driver.check_tile.Goals as goal
use Rattle.tile_check.proofs.driver.check_tile.Goals.{Start}

-- the picture, its outputs and the cut's lists at the call
abbrev picture : Start → Picture
picture c = picture_lent c.args.picture.now

abbrev lent : Start → Planes
lent c = planes_of c.args.outy.now c.args.outcb.now c.args.outcr.now

abbrev lists : Start → Scratch
lists c =
    let a = c.args in
    scratch_of a.cuty.now a.cutcb.now a.cutcr.now a.cutcells.now a.owny.now a.owncb.now a.owncr.now

pub returns-in_err-apply_deblocking-clause-answer : goal.returns-in_err-apply_deblocking-clause-answer
returns-in_err-apply_deblocking-clause-answer c =
    let s = (goal.at.returns-in_err-apply_deblocking-clause-answer c).Start in
    let given = err_from_is_err_and c.from_residual.result c.from_residual.ensures.1 in
    ap told given.1
    ∙ ap told_refusal given.2
    ∙ refusal_is (picture s) (lent s) c.args.at (lists s) _ c.in_err-apply_deblocking.ensures.verdict

pub returns-in_err-apply_deblocking-clause-scratch : goal.returns-in_err-apply_deblocking-clause-scratch
returns-in_err-apply_deblocking-clause-scratch c =
    let s = (goal.at.returns-in_err-apply_deblocking-clause-scratch c).Start in
    refusal_leaves (picture s) (lent s) c.args.at (lists s) _ c.in_err-apply_deblocking.ensures.verdict

pub compare_tile-requires : goal.compare_tile-requires
compare_tile-requires c =
    let s = (goal.at.compare_tile-requires c).Start in
    let kept = c.apply_deblocking.auto in
    accepted_still (picture s) (lent s) c.in_ok-apply_deblocking.ensures.verdict (omega (arith, kept))
    (omega (arith, kept))
    (omega (arith, kept))

pub returns-clause-answer : goal.returns-clause-answer
returns-clause-answer c =
    let s = (goal.at.returns-clause-answer c).Start in
    outcome_is (picture s) (lent s) c.args.at (lists s) c.in_ok-apply_deblocking.ensures.verdict
    c.apply_deblocking.ensures.planes c.compare_tile.ensures.answer

pub returns-clause-agrees : goal.returns-clause-agrees
returns-clause-agrees c fit =
    let s = (goal.at.returns-clause-agrees c).Start in
    outcome_is (picture s) (lent s) c.args.at (lists s) c.in_ok-apply_deblocking.ensures.verdict
    c.apply_deblocking.ensures.planes c.compare_tile.ensures.answer
    ∙ none_differs (picture s) (lent s) c.args.at (lists s) fit

pub returns-clause-scratch : goal.returns-clause-scratch
returns-clause-scratch c =
    let s = (goal.at.returns-clause-scratch c).Start in
    after_is (picture s) (lent s) c.args.at (lists s) c.in_ok-apply_deblocking.ensures.verdict
    c.compare_tile.ensures.scratch
