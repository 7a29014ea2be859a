-- `first_bad_cell` meets its contract: the first record that is bad by the tests on machine numbers is looked for.
-- Assumes nothing.
use Rattle.std.proofs.Common.{ℕ, ◌≡◌, ◌∙◌, ◌/◌, length, true, false, rules, tests}
use Rattle.std.proofs.lemmas.Iterator.{first_from_Range}
use Rattle.picture.specs.Causes.{cell_rules}
use Rattle.picture.specs.Ledger.{Cause}
use Rattle.list_checks.proofs.Places.{found_first}
use Rattle.list_checks.proofs.Records.{least_byte, records_cause, records_place}
use Rattle.list_checks.proofs.cells.first_bad_cell.Goals as goal

pub returns : goal.returns
returns c =
    let a = c.args in
    let cells : Cause =
    records_cause cell_rules (least_byte a.depth) c.slice_count-count.result a.cells.now (length a.cells.now / 8) in
    found_first cells c.find.result
    (first_from_Range _ _ _ c.find.result (λ (n : ℕ). cells.bad n ≡ true) (λ (n : ℕ). cells.bad n ≡ false)
    c.find.ensures.ran (λ x q k. search (rules, tests)) (λ x q k. search (rules, tests)))
    ∙ records_place c.requires.1 a.slices.now c.slice_count-count.ensures a.cells.now cell_rules
    (length a.cells.now / 8)
