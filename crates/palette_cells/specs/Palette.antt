-- Document 02, C-19: "Bit 4 of the cell flags now marks a cell as one, held in luma and chroma at either setting of the
-- PCM switch." A palette cell is one with flag bit 4; document 01's held is suppressed here. `verdict` and `outputs`
-- are the answer and the planes that the stage's contract names, and the planes are made of `finished_plane` where the
-- picture is accepted: what is said of them here is said of the stage.
use Rattle.std.specs.Prelude.{ℕ, suc, ◌+◌, ◌-◌, ◌%◌, ◌≡◌, true, false, cond, List, [], ◌∷◌, eqb}
use Rattle.filter.specs.Finished.{finished_plane, outputs}
use Rattle.picture.specs.Causes.{verdict}
use Rattle.picture.specs.Cell.{bit, cell_at, cell_beneath}
use Rattle.picture.specs.Picture.{Picture, Planes, original, with_lists}
use Rattle.picture.specs.Scale.{Component}

-- ---- a palette cell keeps its samples

-- "in luma and chroma at either setting of the PCM switch": of any component and under any settings, the samples of a
-- palette cell are the original ones in the end
abbrev pub PaletteKept : Type 0
PaletteKept = (p : Picture) (c : Component) (x y : ℕ) → bit (cell_beneath p c x y).flags 4 ≡ true
    → finished_plane p c x y ≡ original p c x y

-- ---- a palette cell is as good as a lossless one

-- flags with bit 2 set
abbrev pub with_lossless : ℕ → ℕ
with_lossless flags = cond (bit flags 2) flags (flags + 4)

-- flags with bit 2, lossless, in the place of bit 4, palette
abbrev pub lossless_for : ℕ → ℕ
lossless_for flags = cond (bit flags 4) (with_lossless (flags - 16)) flags

-- byte k of a cell list: byte 1 of each eight are the flags
abbrev pub turned_byte : ℕ → ℕ → ℕ
turned_byte k byte = cond (eqb (k % 8) 1) (lossless_for byte) byte

abbrev pub turned_from : ℕ → List ℕ → List ℕ
turned_from k [] = []
turned_from k (byte ∷ rest) = turned_byte k byte ∷ turned_from (suc k) rest

-- the same picture, bit 4 turned into bit 2 in every cell
abbrev pub turned : Picture → Picture
turned p = with_lists (turned_from 0 p.cells) p.slices p

-- The turned picture has no palette cell, and every picture has its answer and its output planes. No picture is left
-- out: one that is refused is refused either way, with the same number and place. `lent` are the output planes, holding
-- anything.
pub record PaletteAsLossless : Type 0 where
  pub none_left : (p : Picture) (n : ℕ) → bit (cell_at (turned p).cells n).flags 4 ≡ false
  pub same_verdict : (p : Picture) (lent : Planes) → verdict p lent ≡ verdict (turned p) lent
  pub same_outputs : (p : Picture) (lent : Planes) → outputs p lent ≡ outputs (turned p) lent
