-- `check` meets its contract: a refusal by the settings is the answer; else the lengths are tried, and then the lists.
-- Assumes nothing.
use Rattle.std.proofs.Common.{◌∷◌, arith}
use Rattle.std.proofs.lemmas.Result.{err_from_is_err_and}
use Rattle.checks.specs.Lengths.{lent_tests}
use Rattle.picture.specs.Causes.{cause6, cell_rules}
use Rattle.picture.specs.Given.{bare}
use Rattle.picture.specs.Ledger.{entry}
use Rattle.picture.specs.Lent.{picture_lent}
use Rattle.ledger.specs.Parts.{lists_part, settings_part}
use Rattle.ledger.proofs.Answers.{passed_on, settled, told_good}
use Rattle.ledger.proofs.order.check.Goals as goal

pub returns-in_err-check_settings : goal.returns-in_err-check_settings
returns-in_err-check_settings c =
    let p = picture_lent c.args.picture.now in
    let lent = lent_tests (bare c.args.picture.now.settings) c.args.lent in
    let given = err_from_is_err_and c.from_residual.result c.from_residual.ensures.1 in
    passed_on (settings_part p) (entry 6 (cause6 lent p) ∷ lists_part cell_rules p) c.check_settings.ensures
    c.in_err-check_settings.was given.1 given.2

pub check_lists-requires : goal.check_lists-requires
check_lists-requires c =
    let s = c.args.picture.now.settings in
    let p = picture_lent c.args.picture.now in
    let good = told_good (settings_part (bare s)) (omega arith) c.check_settings.ensures c.in_ok-check_settings.was in
    settled s good p.originals p.cells p.slices p.columns p.rows (lent_tests (bare s) c.args.lent)
    c.bad_lengths.ensures c.if-bad_lengths.false
