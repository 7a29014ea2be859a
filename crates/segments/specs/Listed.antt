-- What it is that a position's cell lies in a list of cell records.
use Rattle.std.specs.Prelude.{ℕ, ◌+◌, ◌*◌, ◌/◌, ◌^◌, ◌≤◌, ◌<◌, List, length}

-- the cell of the luma sample at column x and row y, of `width` cells to a row: its number is small, and its record
-- listed
pub record Listed (cells : List ℕ) (width x y : ℕ) : Type 0 where
  pub small : y / 4 * width + x / 4 < 2 ^ 32
  pub there : 8 * (y / 4 * width + x / 4) + 8 ≤ length cells
