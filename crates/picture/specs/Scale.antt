-- How the samples of a plane, the 4 by 4 cells and the CTBs stand to luma samples, one direction at a time. Document
-- 01: "Luma columns, chroma columns, cell columns and CTB columns are separate counts .. and each gets its own type":
-- the types are LumaColumn, ChromaColumn, CellColumn and CtbColumn of src/columns.rt, whose scalings are the
-- functions here.
use Rattle.std.specs.Prelude.{ℕ, ◌*◌, ◌/◌, ◌^◌, cond, eqb}

-- the planes of a picture
pub data Component : Type 0 where
  Y Cb Cr : Component

-- a plane has a sample for each luma sample of a direction, for every second one, or none
pub data Sampling : Type 0 where
  whole halved absent : Sampling

-- "Chroma format 0 to 3 (none, 4:2:0, 4:2:2, 4:4:4). Chroma planes are w/2 by h/2, w/2 by h, w by h; format 0 has
-- empty ones."
abbrev pub chroma_across : ℕ → Sampling
chroma_across format = cond (eqb format 0) absent (cond (eqb format 3) whole halved)

abbrev pub chroma_down : ℕ → Sampling
chroma_down format = cond (eqb format 0) absent (cond (eqb format 1) halved whole)

abbrev pub sampling_across : ℕ → Component → Sampling
sampling_across format Y = whole
sampling_across format Cb = chroma_across format
sampling_across format Cr = chroma_across format

abbrev pub sampling_down : ℕ → Component → Sampling
sampling_down format Y = whole
sampling_down format Cb = chroma_down format
sampling_down format Cr = chroma_down format

-- from a count of luma samples to a plane's own
abbrev pub from_luma : Sampling → ℕ → ℕ
from_luma whole n = n
from_luma halved n = n / 2
from_luma absent n = 0

-- and back: "chroma positions are scaled to luma by the format" (an absent plane has none to scale)
abbrev pub to_luma : Sampling → ℕ → ℕ
to_luma whole n = n
to_luma halved n = 2 * n
to_luma absent n = n

-- the cell of a luma sample: "one for each 4 by 4 luma block"
abbrev pub cell_of : ℕ → ℕ
cell_of n = n / 4

-- the CTB of a luma sample
abbrev pub ctb_of : ℕ → ℕ → ℕ
ctb_of log2 n = n / 2 ^ log2
