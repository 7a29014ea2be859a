-- Cell rows, the samples of a cell in one row of a plane, and a row of a plane made of them; a cell has `across`
-- samples there.
use Rattle.std.specs.Prelude.{ℕ, ◌+◌, ◌*◌, ◌/◌, ◌≤◌, ◌<◌, ◌^◌, ◌≡◌, Bool, cond, List, length, get_or}
use Rattle.picture.specs.Cell.{cell_number}
use Rattle.restore.specs.Restored.{sample_of}

-- `after` is `before` with `count` samples from `at` taken from the list that the mark selects
pub record RowRestored (at count : ℕ) (mark : Bool) (original before after : List ℕ) : Type 0 where
  pub within : (k : ℕ) → k < count
      → get_or after (at + k) 0 ≡ cond mark (get_or original (at + k) 0) (get_or before (at + k) 0)
  pub left : (i : ℕ) → i < at → get_or after i 0 ≡ get_or before i 0
  pub right : (i : ℕ) → at + count ≤ i → get_or after i 0 ≡ get_or before i 0

-- one row of a plane, of the cells in one row of cells
abbrev pub LineRestored : Bool → List ℕ → ℕ → ℕ → ℕ → List ℕ → List ℕ → List ℕ → Type 0
LineRestored pcm cells width row across original before after =
    (x : ℕ) → x < width * across
    → get_or after x 0 ≡ sample_of pcm cells (cell_number width (x / across) row) (get_or original x 0)
    (get_or before x 0)

-- what is lent for such a row
pub record LineLent (width row across : ℕ) (line original cells : List ℕ) : Type 0 where
  pub across_low : 2 ≤ across
  pub across_high : across ≤ 4
  pub line_long : length line ≡ width * across
  pub original_long : length original ≡ width * across
  pub cells_long : 8 * (row * width + width) ≤ length cells
  pub cells_few : 8 * (row * width + width) < 2 ^ 32
