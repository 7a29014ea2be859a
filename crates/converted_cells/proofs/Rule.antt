-- C-14's rule among the checks: what it adds to the answer of before.
use Prim.Native.Nat.{ℕ, ◌<◌}
use mathlib.Core.Path.{◌≡◌, refl, sym, ap, ◌∙◌}
use mathlib.Core.Bool.{Bool, cond}
use mathlib.Core.List.{List, [], ◌∷◌}
use native.Mathlib.Omega.{arith}
use lib.Dec.{eqb}
use lib.ListN.{take, drop}
use Rattle.filter.specs.Finished.{finished, outputs}
use Rattle.picture.specs.Accepted.{AllStrengthsOk}
use Rattle.picture.specs.Causes.{bad_cell, bad_planes, broken, cause9, cause10, cell_rules, ledger, verdict}
use Rattle.picture.specs.Cell.{cell_byte, cell_count}
use Rattle.picture.specs.Ledger.{Entry, Verdict, acceptance, entry, first_of}
use Rattle.picture.specs.Picture.{Picture, Planes}
use Rattle.picture.proofs.Accepted.{strengths_in}
use Rattle.picture.proofs.Ledger.{
  Good,
  NoneOf,
  exchanged,
  first_passed,
  good_out,
  last_passed,
  none_first,
  none_last,
  none_out,
  place_same,
}
use Rattle.converted_cells.specs.ConvertedCells.{outputs_before, rule_cause, verdict_before}

module _ (p : Picture) (lent : Planes) where
  -- the checks of before, 1 to 8 and 10 of which are those of now
  abbrev checks : List Entry
  checks = ledger (bad_planes p lent) [] p

  abbrev byte : ℕ → ℕ → ℕ
  byte = cell_byte p.cells

  abbrev ranges : ℕ → List Bool
  ranges n = bad_cell p.settings.luma_depth p.slices (byte n)

  -- ---- a picture in rule

  module _ (in_rule : AllStrengthsOk p) where
    no_more : (n : ℕ) → n < cell_count p → (cause9 cell_rules p).bad n ≡ (cause9 [] p).bad n
    no_more n h =
        none_last (ranges n) (broken cell_rules (byte n)) (strengths_in (byte n) (in_rule n h))
        ∙ sym (none_last (ranges n) [] tt)

    pub as_before : verdict p lent ≡ verdict_before p lent
    unfolding verdict
    as_before =
        exchanged (take 8 checks) 9 (cause9 cell_rules p) (cause9 [] p) (drop 9 checks) refl
        (place_same (cause9 cell_rules p) (cause9 [] p) refl no_more)

    pub planes_as_before : outputs p lent ≡ outputs_before p lent
    unfolding outputs
    planes_as_before = ap (λ (v : Verdict). cond (eqb v.number 0) (finished p) lent) as_before

  -- ---- a picture accepted so far

  module _ (so_far : verdict_before p lent ≡ acceptance) where
    in_range : Good (cause9 [] p) → (n : ℕ) → n < cell_count p → NoneOf (ranges n)
    in_range good n h = none_out (ranges n) (sym (none_last (ranges n) [] tt) ∙ good n h)

    rule_only : Good (cause9 [] p) → (n : ℕ) → n < cell_count p → (cause9 cell_rules p).bad n ≡ (rule_cause p).bad n
    rule_only good n h =
        none_first (ranges n) (broken cell_rules (byte n)) (in_range good n h)

    pub rule_alone : verdict p lent ≡ first_of (entry 9 (rule_cause p) ∷ [])
    unfolding verdict
    rule_alone =
        let (g1, (g2, (g3, (g4, (g5, (g6, (g7, (g8, (g9, (g10, _)))))))))) =
        good_out checks (omega arith) (ap (λ (v : Verdict). v.number) so_far) in
        first_passed (take 8 checks) (entry 9 (cause9 cell_rules p) ∷ entry 10 (cause10 p) ∷ [])
        (g1, (g2, (g3, (g4, (g5, (g6, (g7, (g8, tt))))))))
        ∙ last_passed (entry 9 (cause9 cell_rules p) ∷ []) (entry 10 (cause10 p) ∷ []) (g10, tt)
        ∙ exchanged [] 9 (cause9 cell_rules p) (rule_cause p) [] refl
        (place_same (cause9 cell_rules p) (rule_cause p) refl (rule_only g9))
