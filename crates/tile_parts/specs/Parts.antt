-- Parts of lists of rows, as the code holds them.
use Rattle.std.specs.Prelude.{ℕ, zero, suc, ◌+◌, ◌*◌, ◌≤◌, ◌≡◌, List, [], ◌++◌, length, get_or, take, drop}
use Rattle.ints.specs.Sum.{sum}
use Rattle.filter.specs.Count.{differ}
use Rattle.picture.specs.Plane.{Part}
use Rattle.picture.specs.Scale.{chroma_across, chroma_down, from_luma, cell_of}
use Rattle.tile_parts.specs.declared.Part as Code

abbrev pub part_of : Code.Part → Part
part_of r = record { x = r.x; y = r.y; width = r.width; height = r.height }

-- a luma part in a chroma plane, and in the cell records, 8 bytes to a cell
abbrev pub chroma_part : ℕ → Part → Part
chroma_part format luma = record {
  x = from_luma (chroma_across format) luma.x;
  y = from_luma (chroma_down format) luma.y;
  width = from_luma (chroma_across format) luma.width;
  height = from_luma (chroma_down format) luma.height;
}

abbrev pub bytes_part : Part → Part
bytes_part luma = record {
  x = 8 * cell_of luma.x;
  y = cell_of luma.y;
  width = 8 * cell_of luma.width;
  height = cell_of luma.height;
}

-- a part lies in a list of `rows` rows; the sizes keep an index in 64 bits
pub record Room {A : Type 0} (part : Part) (stride : ℕ) (list : List A) : Type 0 where
  pub rows : ℕ
  pub long : length list ≡ stride * rows
  pub columns : part.width + part.x ≤ stride
  pub down : part.height + part.y ≤ rows
  pub wide : stride ≤ 65536
  pub high : rows ≤ 65536

-- the first n rows of a part, of a list of anything; of a list of numbers all its rows are picture's `crop`
unfoldable pub first_rows : {A : Type 0} → List A → ℕ → Part → ℕ → List A
first_rows list stride part zero = []
first_rows list stride part (suc n) =
    first_rows list stride part n ++ take part.width (drop ((part.y + n) * stride + part.x) list)

-- the samples in which two rows differ
unfoldable pub row_differences : List ℕ → List ℕ → ℕ
row_differences own out = sum (length own) (λ x. differ (get_or own x 0) (get_or out x 0))
