-- The pictures that are accepted: the ranges and the lengths of document 01, 'What a sheet consists of', and document
-- 02's C-14, as one readable predicate. proofs/Accepted.antt shows that it holds exactly where no cause of the ledger
-- applies.
use Rattle.std.specs.Prelude.{ℕ, suc, ◌+◌, ◌-◌, ◌*◌, ◌%◌, ◌≤◌, ◌<◌, ◌≡◌, true, List, length, get_or, ℤ, pos, ◌≤ℤ◌}
use Rattle.ints.specs.Int.{◌⊖◌, neg}
use Rattle.picture.specs.Cell.{bit, cell_byte, cell_count}
use Rattle.picture.specs.Picture.{Picture, Planes, Settings, plane_of, plane_width, plane_height, largest, ctb_size}
use Rattle.picture.specs.Scale.{Component}
use Rattle.picture.specs.Slice.{slice_byte, slice_count}
use Rattle.picture.specs.Tile.{ctb_count}

-- "multiples of 8, from 8 to 8,192"
pub record SizeOk (n : ℕ) : Type 0 where
  pub eights : n % 8 ≡ 0
  pub least : 8 ≤ n
  pub most : n ≤ 8192

-- "Cb and Cr offsets: −12 to 12"
pub record OffsetOk (z : ℤ) : Type 0 where
  pub least : neg (pos 12) ≤ℤ z
  pub most : z ≤ℤ pos 12

pub record SettingsOk (t : Settings) : Type 0 where
  pub format : t.format ≤ 3
  pub luma_low : 8 ≤ t.luma_depth
  pub luma_high : t.luma_depth ≤ 16
  pub chroma_low : 8 ≤ t.chroma_depth
  pub chroma_high : t.chroma_depth ≤ 16
  pub ctb_low : 4 ≤ t.log2_ctb
  pub ctb_high : t.log2_ctb ≤ 6
  pub cb : OffsetOk t.cb_offset
  pub cr : OffsetOk t.cr_offset

-- each plane has a sample for each of its columns and rows
abbrev pub PlanesOk : Picture → Planes → Type 0
PlanesOk p planes = (c : Component) → length (plane_of planes c) ≡ plane_width p c * plane_height p c

-- no sample is above its largest
abbrev pub SamplesOk : Picture → Type 0
SamplesOk p =
    (c : Component) (k : ℕ) → k < length (plane_of p.originals c)
    → get_or (plane_of p.originals c) k 0 ≤ largest p.settings c

-- the four bytes of a slice record
pub record SliceOk (byte : ℕ → ℕ) : Type 0 where
  pub disabled : byte 0 ≤ 1
  pub beta : byte 1 ≤ 12
  pub tc : byte 2 ≤ 12
  pub across : byte 3 ≤ 1

-- whole records, at most 600, each in range; the record that an empty list stands for is in range too
pub record SlicesOk (slices : List ℕ) : Type 0 where
  pub fours : length slices % 4 ≡ 0
  pub most : length slices ≤ 2400
  pub records : (n : ℕ) → n < slice_count slices → SliceOk (slice_byte slices n)

-- the tile starts of one direction, of `total` samples and at most `many` tiles
pub record StartsOk (starts : List ℕ) (many size total : ℕ) : Type 0 where
  pub one : 0 < length starts
  pub few : length starts ≤ many
  pub zeroth : get_or starts 0 0 ≡ 0
  pub rising : (k : ℕ) → suc k < length starts → get_or starts k 0 < get_or starts (suc k) 0
  pub below : (k : ℕ) → k < length starts → get_or starts k 0 < ctb_count size total

-- the eight bytes of a cell record
pub record CellOk (depth : ℕ) (slices : List ℕ) (byte : ℕ → ℕ) : Type 0 where
  pub qp_low : neg (pos (6 * (depth - 8))) ≤ℤ (byte 0 ⊖ 64)
  pub qp_high : (byte 0 ⊖ 64) ≤ℤ pos 51
  pub flags : byte 1 ≤ 31
  pub bsv : byte 2 ≤ 2
  pub bsh : byte 3 ≤ 2
  pub slice : byte 4 + 256 * byte 5 < slice_count slices
  pub sixth : byte 6 ≡ 0
  pub seventh : byte 7 ≡ 0

-- Document 02, C-14: "vertical bS above 0 needs bit 0, horizontal bS above 0 bit 1"
pub record StrengthsOk (byte : ℕ → ℕ) : Type 0 where
  pub vertical : 0 < byte 2 → bit (byte 1) 0 ≡ true
  pub horizontal : 0 < byte 3 → bit (byte 1) 1 ≡ true

-- the picture's own part, but for C-14's rule
pub record PictureOk (p : Picture) : Type 0 where
  pub width : SizeOk p.width
  pub height : SizeOk p.height
  pub settings : SettingsOk p.settings
  pub originals : PlanesOk p p.originals
  pub cells_long : length p.cells ≡ 8 * cell_count p
  pub slices : SlicesOk p.slices
  pub columns : StartsOk p.columns 20 (ctb_size p.settings) p.width
  pub rows : StartsOk p.rows 22 (ctb_size p.settings) p.height
  pub cells : (n : ℕ) → n < cell_count p → CellOk p.settings.luma_depth p.slices (cell_byte p.cells n)
  pub samples : SamplesOk p

-- planes alone, with their sizes, format and depths: where C-11's ledger of document 02 refuses nothing
pub record GivenPlanesOk (p : Picture) : Type 0 where
  pub width : SizeOk p.width
  pub height : SizeOk p.height
  pub format : p.settings.format ≤ 3
  pub luma_low : 8 ≤ p.settings.luma_depth
  pub luma_high : p.settings.luma_depth ≤ 16
  pub chroma_low : 8 ≤ p.settings.chroma_depth
  pub chroma_high : p.settings.chroma_depth ≤ 16
  pub originals : PlanesOk p p.originals
  pub samples : SamplesOk p

-- C-14's rule, in every cell
abbrev pub AllStrengthsOk : Picture → Type 0
AllStrengthsOk p = (n : ℕ) → n < cell_count p → StrengthsOk (cell_byte p.cells n)

-- with that rule, and the output planes that are lent to the stage
pub record Accepted (p : Picture) (outputs : Planes) : Type 0 where
  pub picture : PictureOk p
  pub strengths : AllStrengthsOk p
  pub outputs_long : PlanesOk p outputs
