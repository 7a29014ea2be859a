-- `first_bad_slice` meets its contract: the first record that is bad by its tests is looked for.
-- Assumes nothing.
use Rattle.std.proofs.Common.{ℕ, ◌≡◌, true, false, rules, tests}
use Rattle.std.proofs.lemmas.Iterator.{first_from_Range}
use Rattle.picture.specs.Causes.{cause7}
use Rattle.list_checks.proofs.Places.{found_first}
use Rattle.list_checks.proofs.slices.first_bad_slice.Goals as goal

pub returns : goal.returns
returns c =
    let bad = (cause7 c.args.slices.now).bad in
    found_first (cause7 c.args.slices.now) c.find.result
    (first_from_Range _ _ _ c.find.result (λ (n : ℕ). bad n ≡ true) (λ (n : ℕ). bad n ≡ false) c.find.ensures.ran
    (λ x q k. search (rules, tests)) (λ x q k. search (rules, tests)))
