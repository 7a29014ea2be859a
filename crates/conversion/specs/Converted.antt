-- Document 02, C-14: stored cell lists are converted by a program "that zeroes those strengths and copies the rest, a
-- partial last record too". Those strengths are the ones above 0 without their edge flag, whatever else the record
-- holds.
use Rattle.std.specs.Prelude.{ℕ, ◌*◌, ◌/◌, Bool, cond, ◌&&◌, ◌||◌, List, ◌++◌, eqb, length, drop}
use Rattle.picture.specs.Causes.{horizontal_edgeless, vertical_edgeless}
use Rattle.picture.specs.Cell.{cell_byte}
use Rattle.picture.specs.Plane.{table}

-- byte b of a record is a strength without an edge: byte 2 is the vertical bS, byte 3 the horizontal one
abbrev pub edgeless_byte : (ℕ → ℕ) → ℕ → Bool
edgeless_byte byte b = (eqb b 2 && vertical_edgeless byte) || (eqb b 3 && horizontal_edgeless byte)

-- byte b of a converted record
abbrev pub converted_byte : (ℕ → ℕ) → ℕ → ℕ
converted_byte byte b = cond (edgeless_byte byte b) 0 (byte b)

-- the whole records, one after another, then what is left: a partial last record, or nothing
unfoldable pub converted : List ℕ → List ℕ
converted cells =
    table 8 (records cells) (λ b n. converted_byte (cell_byte cells n) b)
    ++ drop (8 * records cells) cells
  where
    records : List ℕ → ℕ
    records l = length l / 8

-- what is left in a list that is lent for it: the converted one where it is as long, else what it held
abbrev pub converted_into : List ℕ → List ℕ → List ℕ
converted_into cells lent = cond (eqb (length cells) (length lent)) (converted cells) lent
