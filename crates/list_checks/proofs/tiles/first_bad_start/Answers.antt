-- `first_bad_start` meets its contract: the first start that is bad by its tests is looked for.
-- Assumes nothing.
use Rattle.std.proofs.Common.{ℕ, ◌≡◌, true, false, rules, tests}
use Rattle.std.proofs.lemmas.Iterator.{first_from_Range}
use Rattle.picture.specs.Causes.{starts_cause}
use Rattle.picture.specs.Ledger.{Cause}
use Rattle.list_checks.proofs.Places.{found_first}
use Rattle.list_checks.proofs.tiles.first_bad_start.Goals as goal

pub returns : goal.returns
returns c =
    let starts : Cause = starts_cause c.args.starts.now c.args.size c.args.total in
    found_first starts c.find.result
    (first_from_Range _ _ _ c.find.result (λ (k : ℕ). starts.bad k ≡ true) (λ (k : ℕ). starts.bad k ≡ false)
    c.find.ensures.ran (λ x q k. search (rules, tests)) (λ x q k. search (rules, tests)))
