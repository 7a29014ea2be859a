-- Document 01: "Cell records, 8 bytes, one for each 4 by 4 luma block, row by row, no header: QP plus 64; flags (bit
-- 0 vertical edge on the left side, bit 1 horizontal edge on the top side, bit 2 lossless, bit 3 PCM, others 0);
-- vertical bS; horizontal bS; slice number, two bytes, low first; two zero bytes." Document 02, C-19: "Bit 4 of the
-- cell flags now marks a cell as one", a palette unit.
use Rattle.std.specs.Prelude.{ℕ, ◌+◌, ◌*◌, ◌/◌, ◌%◌, ◌^◌, Bool, ◌&&◌, ◌||◌, List, eqb, get_or, ℤ}
use Rattle.ints.specs.Int.{◌⊖◌}
use Rattle.picture.specs.declared.Cell.{Cell}
use Rattle.picture.specs.Picture.{Picture}
use Rattle.picture.specs.Scale.{Component, sampling_across, sampling_down, to_luma, cell_of}

-- byte b of cell record n
abbrev pub cell_byte : List ℕ → ℕ → ℕ → ℕ
cell_byte cells n b = get_or cells (8 * n + b) 0

-- cell record n; its QP byte is the QP plus 64
unfoldable pub cell_at : List ℕ → ℕ → Cell
cell_at cells n = record {
  qp = cell_byte cells n 0;
  flags = cell_byte cells n 1;
  bsv = cell_byte cells n 2;
  bsh = cell_byte cells n 3;
  slice = cell_byte cells n 4 + 256 * cell_byte cells n 5;
}

-- the number of the cell at a cell column and cell row, of `width` cells to a row
abbrev pub cell_number : ℕ → ℕ → ℕ → ℕ
cell_number width column row = row * width + column

-- how many cells a picture has
abbrev pub cell_count : Picture → ℕ
cell_count p = cell_of p.width * cell_of p.height

-- the cell of the luma sample at column x and row y
abbrev pub cell_of_sample : Picture → ℕ → ℕ → Cell
cell_of_sample p x y = cell_at p.cells (cell_number (cell_of p.width) (cell_of x) (cell_of y))

-- the cell of a component's sample; document 01: "A chroma sample belongs to the cell of its scaled luma position."
abbrev pub cell_beneath : Picture → Component → ℕ → ℕ → Cell
cell_beneath p c x y =
    cell_of_sample p (to_luma (sampling_across p.settings.format c) x)
    (to_luma (sampling_down p.settings.format c) y)

abbrev pub qp_of : Cell → ℤ
qp_of c = c.qp ⊖ 64

-- bit k of a flags byte
abbrev pub bit : ℕ → ℕ → Bool
bit flags k = eqb (flags / 2 ^ k % 2) 1

-- Document 01: "A cell is held when lossless, or PCM with the switch on." Document 02, C-19, of a palette cell: "held
-- in luma and chroma at either setting of the PCM switch". The Rust's word for held is suppressed; the switch comes
-- first.
unfoldable pub suppressed : Bool → Cell → Bool
suppressed pcm_loop_filter_disabled c =
    bit c.flags 2 || (bit c.flags 3 && pcm_loop_filter_disabled) || bit c.flags 4
