-- Cause 9 of the ledger on machine numbers: a record's QP byte is held to its least and its largest byte, and its
-- slice number to the number of slice records. proofs/Records.antt shows that the tests of bad_record are those of
-- bad_cell.
use Rattle.std.specs.Prelude.{ℕ, Bool, not, List, [], ◌∷◌, ◌++◌, leb, ltb, eqb}
use Rattle.picture.specs.Causes.{edgeless}
use Rattle.picture.specs.Cell.{cell_at, cell_byte}
use Rattle.picture.specs.declared.Cell.{Cell}

-- the QP byte, of which `least` is the least; the QP 51 is byte 115
abbrev pub bad_qp_byte : ℕ → ℕ → List Bool
bad_qp_byte least qp = ltb qp least ∷ ltb 115 qp ∷ []

-- the slice number, where `count` is the number of slice records, and the last two bytes
abbrev pub bad_tail : ℕ → ℕ → ℕ → ℕ → List Bool
bad_tail count slice sixth seventh = leb count slice ∷ not (eqb sixth 0) ∷ not (eqb seventh 0) ∷ []

-- record n of a list
abbrev pub bad_record : ℕ → ℕ → List ℕ → ℕ → List Bool
bad_record least count cells n =
    let cell : Cell = cell_at cells n in
    bad_qp_byte least cell.qp
    ++ ((ltb 31 cell.flags ∷ ltb 2 cell.bsv ∷ ltb 2 cell.bsh ∷ [])
    ++ bad_tail count cell.slice (cell_byte cells n 6) (cell_byte cells n 7))

-- a strength by itself, as the code tries it: its range, and C-14's rule
abbrev pub bad_strength : Bool → ℕ → List Bool
bad_strength edge bs = ltb 2 bs ∷ edgeless edge bs ∷ []
