-- `check_settings` meets its contract: a refusal for size or format is the answer; else a cause that applies gives it,
-- and one that does not leaves it to the next, as Rattle finds.
-- Assumes nothing.
use Rattle.std.proofs.Common.{drop}
use Rattle.std.proofs.lemmas.Result.{err_from_is_err_and}
use Rattle.picture.specs.Given.{bare}
use Rattle.ledger.specs.Parts.{format_part, settings_part}
use Rattle.ledger.proofs.Answers.{passed_on}
use Rattle.ledger.proofs.settings.check_settings.Goals as goal

pub returns-in_err-check_format : goal.returns-in_err-check_format
returns-in_err-check_format c =
    let p = bare c.args.settings in
    let given = err_from_is_err_and c.from_residual.result c.from_residual.ensures.1 in
    passed_on (format_part p) (drop 2 (settings_part p)) c.check_format.ensures c.in_err-check_format.was given.1 given.2
