-- `check_planes` meets its contract: a refusal for size or format is the answer; else a cause that applies gives it,
-- and one that does not leaves it to the next, as Rattle finds.
-- Assumes nothing.
use Rattle.std.proofs.Common.{drop}
use Rattle.std.proofs.lemmas.Result.{err_from_is_err_and}
use Rattle.picture.specs.Causes.{planes_ledger}
use Rattle.picture.specs.Given.{of_planes}
use Rattle.picture.specs.Lent.{planes_lent}
use Rattle.ledger.specs.Parts.{format_part}
use Rattle.ledger.proofs.Answers.{passed_on}
use Rattle.ledger.proofs.planes.check_planes.Goals as goal

pub returns-in_err-check_format : goal.returns-in_err-check_format
returns-in_err-check_format c =
    let p = of_planes c.args.settings (planes_lent c.args.planes.now) in
    let given = err_from_is_err_and c.from_residual.result c.from_residual.ensures.1 in
    passed_on (format_part p) (drop 2 (planes_ledger p)) c.check_format.ensures c.in_err-check_format.was given.1 given.2
