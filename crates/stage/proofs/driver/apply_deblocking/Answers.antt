-- `apply_deblocking` meets its contract: the verdict is the ledger's; a refusal leaves the outputs, and an accepted
-- picture is finished.
-- Assumes nothing.
use mathlib.Core.Path.{◌≡◌, sym, ap, ◌∙◌}
use Rattle.std.proofs.lemmas.Result.{err_from_is_err_and}
use Rattle.ledger.specs.Numbered.{numbered, refused}
use Rattle.picture.specs.Causes.{verdict}
use Rattle.picture.specs.Given.{planes_of}
use Rattle.picture.specs.Ledger.{acceptance}
use Rattle.picture.specs.Lent.{picture_lent}
use Rattle.picture.specs.Picture.{Picture, Planes}
use Rattle.picture.proofs.Accepted.{accepted_by}
use Rattle.stage.proofs.Outcome.{left_finished, left_as_it_was}
use Rattle.stage.proofs.driver.apply_deblocking.Goals as goal
use Rattle.stage.proofs.driver.apply_deblocking.Goals.{Start, In_ok-check}

-- the picture and the outputs at the call
abbrev picture : Start → Picture
picture c = picture_lent c.args.picture.now

abbrev lent : Start → Planes
lent c = planes_of c.args.outy.now c.args.outcb.now c.args.outcr.now

-- the picture was not refused
accepted : (c : In_ok-check)
    → verdict (picture_lent c.args.picture.now) (planes_of c.args.outy.now c.args.outcb.now c.args.outcr.now) ≡ acceptance
unfolding verdict
accepted c = sym c.in_ok-check.ensures

pub returns-in_err-check-clause-verdict : goal.returns-in_err-check-clause-verdict
unfolding verdict
returns-in_err-check-clause-verdict c =
    let given = err_from_is_err_and c.from_residual.result c.from_residual.ensures.1 in
    ap numbered given.1 ∙ ap refused given.2 ∙ c.in_err-check.ensures

pub returns-in_err-check-clause-planes : goal.returns-in_err-check-clause-planes
unfolding verdict
returns-in_err-check-clause-planes c =
    let at = goal.at.returns-in_err-check-clause-planes c in
    left_as_it_was (picture at.Start) (lent at.Start) _ c.in_err-check.ensures

pub deblock-requires : goal.deblock-requires
deblock-requires c =
    let at = goal.at.deblock-requires c in
    accepted_by (picture at.Start) (lent at.Start) (accepted at.In_ok-check)

pub returns-clause-verdict : goal.returns-clause-verdict
returns-clause-verdict c = sym (accepted (goal.at.returns-clause-verdict c).In_ok-check)

pub returns-clause-planes : goal.returns-clause-planes
returns-clause-planes c =
    let at = goal.at.returns-clause-planes c in
    left_finished (picture at.Start) (lent at.Start) (accepted at.In_ok-check) _ c.deblock.ensures
