-- Document 02, C-14: "each list accepted so far converts to an accepted one with the same planes, and a list already in
-- rule stays the same". `converted` is the list that the conversion's contract names, `verdict` and `outputs` are the
-- answer and the planes that the stage's contract names: what is said of them here is said of the conversion and of the
-- stage.
use Rattle.std.specs.Prelude.{ℕ, ◌/◌, ◌%◌, ◌<◌, ◌≡◌, cond, List, [], ◌∷◌, ◌++◌, eqb, length}
use Rattle.conversion.specs.Converted.{converted}
use Rattle.filter.specs.Finished.{finished, outputs}
use Rattle.picture.specs.Accepted.{AllStrengthsOk, StrengthsOk}
use Rattle.picture.specs.Causes.{bad_planes, broken, cell_rules, ledger, verdict}
use Rattle.picture.specs.Cell.{cell_byte, cell_count}
use Rattle.picture.specs.Ledger.{Cause, Verdict, acceptance, any_of, entry, first_of}
use Rattle.picture.specs.Picture.{Picture, Planes, with_lists}

-- ---- lists

-- no whole record has a strength above 0 without its edge
abbrev pub InRule : List ℕ → Type 0
InRule cells = (n : ℕ) → n < length cells / 8 → StrengthsOk (cell_byte cells n)

pub record ListsConverted : Type 0 where
  -- "a list already in rule stays the same"
  pub stays : (cells : List ℕ) → InRule cells → converted cells ≡ cells
  -- a converted list is in rule, so twice is once
  pub in_rule : (cells : List ℕ) → InRule (converted cells)
  pub once : (cells : List ℕ) → converted (converted cells) ≡ converted cells
  -- a list is converted part by part where each part but the last is of whole records
  pub in_parts : (part rest : List ℕ) → length part % 8 ≡ 0
      → converted (part ++ rest) ≡ converted part ++ converted rest

-- ---- pictures

-- the answer so far, without C-14's rule, and what the stage left by it
abbrev pub verdict_before : Picture → Planes → Verdict
verdict_before p lent = first_of (ledger (bad_planes p lent) [] p)

abbrev pub outputs_before : Picture → Planes → Planes
outputs_before p lent = cond (eqb (verdict_before p lent).number 0) (finished p) lent

-- the same picture with its list converted
abbrev pub converted_picture : Picture → Picture
converted_picture p = with_lists (converted p.cells) p.slices p

-- the rule by itself: the cells with a strength above 0 without its edge
abbrev pub rule_cause : Picture → Cause
rule_cause p = record { count = cell_count p; bad = λ n. any_of (broken cell_rules (cell_byte p.cells n)) }

-- `lent` are the output planes, holding anything
pub record PicturesConverted : Type 0 where
  -- "each list accepted so far converts to an accepted one with the same planes"
  pub accepted : (p : Picture) (lent : Planes) → verdict_before p lent ≡ acceptance
      → verdict (converted_picture p) lent ≡ acceptance
  pub same_planes : (p : Picture) (lent : Planes) → verdict_before p lent ≡ acceptance
      → outputs (converted_picture p) lent ≡ outputs_before p lent
  -- unconverted it is refused with 9, at the first cell out of rule, and accepted where there is none
  pub rule_alone : (p : Picture) (lent : Planes) → verdict_before p lent ≡ acceptance
      → verdict p lent ≡ first_of (entry 9 (rule_cause p) ∷ [])
  -- a picture in rule, whatever else is wrong with it, has the answer and the planes of before
  pub as_before : (p : Picture) (lent : Planes) → AllStrengthsOk p → verdict p lent ≡ verdict_before p lent
  pub planes_as_before : (p : Picture) (lent : Planes) → AllStrengthsOk p → outputs p lent ≡ outputs_before p lent
