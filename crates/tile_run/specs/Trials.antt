-- What is tried of a picture, in order. oracle/README.md: "Tried are every tile, one place past each tile row, one
-- place below the first tile column, and the first tile with each of the lists lent for its cut .. one too short,
-- and, by a number 7 higher, one too long."
use Rattle.std.specs.Prelude.{ℕ, ◌+◌, cond, leb, ltb}
use Rattle.tile_run.specs.declared.line.Trial.{Trial}

-- a tile of picture `number`, with the list `wrong` of its cut one off its length, or none (0)
abbrev pub trial : ℕ → ℕ → ℕ → ℕ → Trial
trial number column row wrong =
    record { number = number; at = record { column = column; row = row }; wrong = wrong }

-- the trial after one, in a picture of so many tile columns and rows: the next list; from below the first tile column
-- the first list; the next place of the tile row; from one past it the next row
unfoldable pub next_trial : ℕ → ℕ → Trial → Trial
next_trial columns rows t =
    cond (ltb 0 t.wrong) (trial t.number 0 0 (t.wrong + 1))
    (cond (leb rows t.at.row) (trial t.number 0 0 1)
    (cond (ltb t.at.column columns) (trial t.number (t.at.column + 1) t.at.row 0)
    (trial t.number 0 (t.at.row + 1) 0)))
