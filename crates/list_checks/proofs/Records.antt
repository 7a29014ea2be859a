-- The bytes of cell records, as the checks read them.
use Prim.Native.Nat.{ℕ, ◌+◌, ◌-◌, ◌*◌, ◌/◌, ◌%◌, ◌≤◌, ◌<◌}
use mathlib.Core.Path.{◌≡◌, refl, sym, ap, ◌∙◌}
use mathlib.Core.Bool.{Bool, true, false, ◌||◌}
use mathlib.Core.List.{List, [], ◌∷◌, ◌++◌}
use mathlib.Core.Logic.{◌⊎◌, inl, inr}
use native.Mathlib.Nat.{div-one}
use native.Mathlib.Omega.{arith}
use borrow.Author.Tests.{lt-ltb, le-ltb}
use lib.Dec.{ltb, eqb}
use Rattle.ints.proofs.Laws.{either}
use Rattle.picture.specs.Causes.{Rule, bad_cell, broken, cell_rules, cells_cause, edgeless}
use Rattle.picture.specs.Cell.{cell_at, cell_byte}
use Rattle.picture.specs.declared.Cell.{Cell}
use Rattle.picture.specs.Ledger.{Cause, any_of, first_place}
use Rattle.picture.specs.Slice.{slice_count}
use Rattle.picture.proofs.Accepted.{qp_low_test, qp_high_test}
use Rattle.list_checks.specs.Cells.{bad_qp_byte, bad_record, bad_strength, bad_tail}
use Rattle.checks.proofs.Tests.{any_both, any_same}

-- the least QP byte of a depth
abbrev pub least_byte : ℕ → ℕ
least_byte depth = 64 - 6 * (depth - 8)

-- the first bad record of m, by the tests on machine numbers
abbrev pub records_cause : List Rule → ℕ → ℕ → List ℕ → ℕ → Cause
records_cause rules least count cells m = record {
  count = m;
  bad = λ n. any_of (bad_record least count cells n ++ broken rules (cell_byte cells n));
}

-- the tests of a record: a strength's range beside its rule, and the rules after the ranges
regrouped : (q f v w h k t : Bool)
    → ((((q || f) || any_of (v ∷ w ∷ [])) || any_of (h ∷ k ∷ [])) || t)
    ≡ ((q || (any_of (f ∷ v ∷ h ∷ []) || t)) || any_of (w ∷ k ∷ []))
regrouped true f v w h k t = refl
regrouped false true v w h k t = refl
regrouped false false true w h k t = refl
regrouped false false false true true k t = refl
regrouped false false false false true k t = refl
regrouped false false false true false k true = refl
regrouped false false false true false k false = refl
regrouped false false false false false true true = refl
regrouped false false false false false true false = refl
regrouped false false false false false false true = refl
regrouped false false false false false false false = refl

together : (qs ts : List Bool) (f v w h k : Bool) {q vertical horizontal t : Bool} → q ≡ any_of qs
    → vertical ≡ any_of (v ∷ w ∷ []) → horizontal ≡ any_of (h ∷ k ∷ []) → t ≡ any_of ts
    → ((((q || f) || vertical) || horizontal) || t) ≡ any_of ((qs ++ ((f ∷ v ∷ h ∷ []) ++ ts)) ++ (w ∷ k ∷ []))
together qs ts f v w h k eq ev eh et =
    (λ i. (((eq i || f) || ev i) || eh i) || et i)
    ∙ regrouped (any_of qs) f v w h k (any_of ts)
    ∙ any_both (qs ++ ((f ∷ v ∷ h ∷ []) ++ ts)) (w ∷ k ∷ [])
    (any_both qs ((f ∷ v ∷ h ∷ []) ++ ts) refl (any_both (f ∷ v ∷ h ∷ []) ts refl refl)) refl

module _ (least count : ℕ) (cells : List ℕ) (n : ℕ) where
  -- the tests of record n, read as `cell`; bit 0 of its flags is not shifted in the code, so that `left` are the flags
  abbrev tests : Cell → ℕ → List Bool
  tests cell left =
      (bad_qp_byte least cell.qp
      ++ ((ltb 31 cell.flags ∷ ltb 2 cell.bsv ∷ ltb 2 cell.bsh ∷ [])
      ++ bad_tail count cell.slice (cell_byte cells n 6) (cell_byte cells n 7)))
      ++ (edgeless (eqb (left % 2) 1) cell.bsv ∷ edgeless (eqb (cell.flags / 2 % 2) 1) cell.bsh ∷ [])

  read_tests : (cell : Cell) → cell ≡ cell_at cells n
      → any_of (tests cell cell.flags)
      ≡ any_of (bad_record least count cells n ++ broken cell_rules (cell_byte cells n))
  unfolding cell_at
  read_tests cell told =
      ap (λ (c : Cell). any_of (tests c c.flags)) told
      ∙ ap (λ (left : ℕ). any_of (tests (cell_at cells n) left)) (sym (div-one (cell_byte cells n 1)))

  pub record_tests : (cell : Cell) {q vertical horizontal t : Bool} → cell ≡ cell_at cells n
      → q ≡ any_of (bad_qp_byte least cell.qp)
      → vertical ≡ any_of (bad_strength (eqb (cell.flags % 2) 1) cell.bsv)
      → horizontal ≡ any_of (bad_strength (eqb (cell.flags / 2 % 2) 1) cell.bsh)
      → t ≡ any_of (bad_tail count cell.slice (cell_byte cells n 6) (cell_byte cells n 7))
      → ((((q || ltb 31 cell.flags) || vertical) || horizontal) || t)
      ≡ any_of (bad_record least count cells n ++ broken cell_rules (cell_byte cells n))
  record_tests cell told eq ev eh et =
      together (bad_qp_byte least cell.qp) (bad_tail count cell.slice (cell_byte cells n 6) (cell_byte cells n 7))
      (ltb 31 cell.flags) (ltb 2 cell.bsv) (edgeless (eqb (cell.flags % 2) 1) cell.bsv) (ltb 2 cell.bsh)
      (edgeless (eqb (cell.flags / 2 % 2) 1) cell.bsh) eq ev eh et
      ∙ read_tests cell told

module _ {depth : ℕ} (h : depth ≤ 16) (slices : List ℕ) {count : ℕ} (e : count ≡ slice_count slices) where
  least_is : (b : ℕ) → ltb b (least_byte depth) ≡ ltb (b + 6 * (depth - 8)) 64
  least_is b = go (either b (least_byte depth))
    where
      go : (b < least_byte depth) ⊎ (least_byte depth ≤ b) → ltb b (least_byte depth) ≡ ltb (b + 6 * (depth - 8)) 64
      go (inl p) = lt-ltb _ _ p ∙ sym (lt-ltb (b + 6 * (depth - 8)) 64 (omega arith))
      go (inr p) = le-ltb _ _ p ∙ sym (le-ltb (b + 6 * (depth - 8)) 64 (omega arith))

  module _ (cells : List ℕ) where
    record_is : (n : ℕ) → any_of (bad_record (least_byte depth) count cells n)
        ≡ any_of (bad_cell depth slices (cell_byte cells n))
    unfolding cell_at
    record_is n = rw (qp_low_test, qp_high_test, ← e, least_is)

    -- the first bad record is the ledger's
    pub records_place : (rules : List Rule) (m : ℕ)
        → first_place (records_cause rules (least_byte depth) count cells m)
        ≡ first_place (cells_cause rules depth slices cells m)
    records_place rules m = λ i. first_place (record { count = m; bad = λ n. ruled n i })
      where
        ruled : (n : ℕ) → (records_cause rules (least_byte depth) count cells m).bad n
            ≡ (cells_cause rules depth slices cells m).bad n
        ruled n =
            any_same (bad_record (least_byte depth) count cells n) (bad_cell depth slices (cell_byte cells n))
            (broken rules (cell_byte cells n)) (record_is n)
