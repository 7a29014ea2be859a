-- The trials of a picture come to an end: fewer are left with each.
-- Assumes nothing.
use Prim.Native.Nat.{ℕ, suc, ◌+◌, ◌-◌, ◌*◌, ◌≤◌, ◌<◌}
use mathlib.Core.Path.{◌≡◌, ap, ◌∙◌}
use mathlib.Core.Bool.{cond}
use mathlib.Core.Logic.{◌⊎◌, inl, inr}
use native.Mathlib.Nat.{add-mul}
use native.Mathlib.Omega.{arith}
use borrow.Author.Tests.{lt-ltb, le-ltb, le-leb, lt-leb}
use lib.Dec.{ltb}
use Rattle.ints.proofs.Laws.{either}
use Rattle.tile_run.specs.declared.line.Trial.{Trial}
use Rattle.tile_run.specs.Trials.{next_trial}

-- how many places and lists are left, and some more
abbrev pub left : ℕ → ℕ → Trial → ℕ
left columns rows t =
    cond (ltb 0 t.wrong) (15 - t.wrong)
    (15 + ((rows - t.at.row) * (columns + 2) + (columns + 1 - t.at.column)))

-- a row less
row_less : (width : ℕ) {row rows : ℕ} → row < rows → (rows - row) * width ≡ (rows - (row + 1)) * width + width
row_less width {row} {rows} h =
    let e : rows - row ≡ rows - (row + 1) + 1 = omega arith in
    ap (λ (n : ℕ). n * width) e ∙ omega (arith, add-mul (rows - (row + 1)) 1 width)

module _ (columns rows : ℕ) (t : Trial) (more : t.wrong < 15) where
  abbrev Less : Type 0
  Less = left columns rows (next_trial columns rows t) < left columns rows t

  next_list : 0 < t.wrong → Less
  unfolding next_trial
  next_list h = rw (lt-ltb 0 t.wrong h, lt-ltb 0 (t.wrong + 1) (omega arith)) (omega arith)

  first_list : t.wrong ≤ 0 → rows ≤ t.at.row → Less
  unfolding next_trial
  first_list h below = rw (le-ltb 0 t.wrong h, le-leb rows t.at.row below) (omega arith)

  next_place : t.wrong ≤ 0 → t.at.row < rows → t.at.column < columns → Less
  unfolding next_trial
  next_place h in_rows in-columns =
      rw (le-ltb 0 t.wrong h, lt-leb rows t.at.row in_rows, lt-ltb t.at.column columns in-columns)
      (omega arith)

  next_row : t.wrong ≤ 0 → t.at.row < rows → columns ≤ t.at.column → Less
  unfolding next_trial
  next_row h in_rows past =
      rw (le-ltb 0 t.wrong h, lt-leb rows t.at.row in_rows, le-ltb t.at.column columns past)
      (omega (arith, row_less (columns + 2) in_rows))

  pub fewer : Less
  fewer = lists (either 0 t.wrong)
    where
      places : t.wrong ≤ 0 → t.at.row < rows → (t.at.column < columns) ⊎ (columns ≤ t.at.column) → Less
      places h in_rows (inl c) = next_place h in_rows c
      places h in_rows (inr c) = next_row h in_rows c

      rows_left : t.wrong ≤ 0 → (t.at.row < rows) ⊎ (rows ≤ t.at.row) → Less
      rows_left h (inl r) = places h r (either t.at.column columns)
      rows_left h (inr r) = first_list h r

      lists : (0 < t.wrong) ⊎ (t.wrong ≤ 0) → Less
      lists (inl h) = next_list h
      lists (inr h) = rows_left h (either t.at.row rows)
