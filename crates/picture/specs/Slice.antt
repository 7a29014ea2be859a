-- Document 01: "Slice records, 4 bytes, at most 600, no header: disabled (0 or 1); beta offset div2 plus 6; tc offset
-- div2 plus 6 (each 0 to 12); filter across (0 or 1)." What an empty list stands for is document 02's, C-13.
use Rattle.std.specs.Prelude.{ℕ, ◌+◌, ◌*◌, ◌/◌, List, [], ◌∷◌, eqb, length, get_or}
use Rattle.picture.specs.declared.Slice.{Slice}

-- C-13: "The empty list shall stand for the record 0, 6, 5, 1", whose tc offset div2 is -1
abbrev pub default_record : List ℕ
default_record = 0 ∷ 6 ∷ 5 ∷ 1 ∷ []

-- byte b of slice record n
abbrev pub slice_byte : List ℕ → ℕ → ℕ → ℕ
slice_byte [] n b = get_or default_record b 0
slice_byte (x ∷ r) n b = get_or (x ∷ r) (4 * n + b) 0

-- how many records a list stands for
abbrev pub slice_count : List ℕ → ℕ
slice_count [] = 1
slice_count (x ∷ r) = length (x ∷ r) / 4

-- slice record n; its offsets are the standard's slice_beta_offset_div2 and slice_tc_offset_div2 plus 6
unfoldable pub slice_at : List ℕ → ℕ → Slice
slice_at slices n = record {
  disabled = eqb (slice_byte slices n 0) 1;
  beta = slice_byte slices n 1;
  tc = slice_byte slices n 2;
  across = eqb (slice_byte slices n 3) 1;
}
