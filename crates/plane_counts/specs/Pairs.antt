-- Pairs of planes. oracle/counts.py: "A record, little endian: u32 width and height of the first plane, first column
-- and first row in the second, stride and rows of the second; width * height u16, the first plane row by row; stride
-- * rows u16, the second."
use Rattle.std.specs.Prelude.{ℕ, ◌+◌, ◌*◌, ◌≤◌, Bool, ◌&&◌, List, leb}
use Rattle.picture_record.specs.Numbers.{word_at}
use Rattle.plane_counts.specs.declared.pairs.Pair.{Pair}

unfoldable pub pair_in : List ℕ → Pair
pair_in head = record {
  part = record { x = word_at head 2; y = word_at head 3; width = word_at head 0; height = word_at head 1 };
  stride = word_at head 4;
  rows = word_at head 5;
}

-- the second plane has at most 40,000 columns, rows and samples
unfoldable pub small : Pair → Bool
small pair = leb pair.stride 40000 && (leb pair.rows 40000 && leb (pair.stride * pair.rows) 40000)

-- the part lies in the second plane
unfoldable pub inside : Pair → Bool
inside pair =
    leb (pair.part.width + pair.part.x) pair.stride && leb (pair.part.height + pair.part.y) pair.rows

-- such a pair, of which both planes have at most 40,000 samples
pub record Fitting (pair : Pair) : Type 0 where
  pub first : pair.part.width * pair.part.height ≤ 40000
  pub second : pair.stride * pair.rows ≤ 40000
  pub stride : pair.stride ≤ 40000
  pub rows : pair.rows ≤ 40000
  pub columns : pair.part.width + pair.part.x ≤ pair.stride
  pub down : pair.part.height + pair.part.y ≤ pair.rows
