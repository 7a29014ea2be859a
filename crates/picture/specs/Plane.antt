-- Planes of samples as functions, as lists of rows, and parts cut out of them.
use Rattle.std.specs.Prelude.{ℕ, zero, suc, ◌+◌, ◌*◌, ◌/◌, ◌%◌, List, [], ◌∷◌, ◌++◌, get_or, take, drop}

-- the sample at column x of row y
abbrev pub Plane : Type 0
Plane = ℕ → ℕ → ℕ

-- a list of rows as a plane: row y starts at y times the width
unfoldable pub at : List ℕ → ℕ → Plane
at list width x y = get_or list (y * width + x) 0

-- f 0, f 1, .. f (n - 1)
abbrev pub tabulate : ℕ → (ℕ → ℕ) → List ℕ
tabulate zero f = []
tabulate (suc n) f = f 0 ∷ tabulate n (λ k. f (suc k))

-- a plane as a list of rows
unfoldable pub table : ℕ → ℕ → Plane → List ℕ
table width height P = tabulate (width * height) (λ k. P (k % width) (k / width))

-- columns and rows exchanged
abbrev pub transposed : Plane → Plane
transposed P x y = P y x

-- a part of a plane: its first column and row, its width and height
pub record Part : Type 0 where
  pub x : ℕ
  pub y : ℕ
  pub width : ℕ
  pub height : ℕ

-- n rows of a list of rows: the first starts at `start`, each next one a stride on
unfoldable pub rect : List ℕ → ℕ → ℕ → ℕ → ℕ → List ℕ
rect list stride start width zero = []
rect list stride start width (suc n) = take width (drop start list) ++ rect list stride (start + stride) width n

-- a part of a list of rows, row by row
unfoldable pub crop : List ℕ → ℕ → Part → List ℕ
crop list stride part = rect list stride (part.y * stride + part.x) part.width part.height
