-- `bad_lengths` meets its contract: the tests of the original planes, those of what is lent, those of the lists.
-- Assumes nothing.
use Rattle.std.proofs.Common.{◌++◌}
use Rattle.picture.specs.Causes.{bad_lists, bad_planes}
use Rattle.picture.specs.Given.{bare}
use Rattle.picture.specs.Lent.{picture_lent}
use Rattle.checks.specs.Lengths.{lent_tests}
use Rattle.checks.proofs.Tests.{any_both}
use Rattle.checks.proofs.lengths.bad_lengths.Goals as goal

pub returns : goal.returns
returns c =
    let p = picture_lent c.args.picture.now in
    let lent = lent_tests (bare c.args.picture.now.settings) c.args.lent in
    any_both (bad_planes p p.originals ++ lent) (bad_lists p)
    (any_both (bad_planes p p.originals) lent c.bad_planes.ensures c.bad_lent.ensures)
    c.bad_lists.ensures
