-- One record of a list converted, the others as they are: the code's step. proofs/Records.antt shows that all steps
-- together make `converted`.
use Rattle.std.specs.Prelude.{ℕ, ◌+◌, ◌*◌, cond, List, set}
use Rattle.picture.specs.Cell.{bit, cell_byte}

-- byte b of record n, where edge flag k is set; else 0
abbrev pub kept_byte : List ℕ → ℕ → ℕ → ℕ → ℕ
kept_byte cells n k b = cond (bit (cell_byte cells n 1) k) (cell_byte cells n b) 0

abbrev pub record_converted : List ℕ → ℕ → List ℕ
record_converted cells n = set (set cells (8 * n + 2) (kept_byte cells n 0 2)) (8 * n + 3) (kept_byte cells n 1 3)
