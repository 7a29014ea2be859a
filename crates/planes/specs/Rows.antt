-- A list of rows that stands for some rows of a plane, and what it is that such a list holds the samples of a plane.
use Rattle.std.specs.Prelude.{ℕ, ◌+◌, ◌-◌, ◌*◌, ◌≤◌, ◌<◌, ◌≡◌, List, get_or}
use Rattle.std.proofs.Math.Option.{Option}
use Rattle.filter.specs.Pass.{pass}
use Rattle.picture.specs.Plane.{Plane, at, transposed}

-- a list of rows of w samples whose first row is row lo, as a plane
abbrev pub seen : ℕ → ℕ → List ℕ → Plane
seen w lo list x y = get_or list ((y - lo) * w + x) 0

-- the list holds the rows from lo to hi of the plane G
abbrev pub Rows : ℕ → ℕ → ℕ → List ℕ → Plane → Type 0
Rows w lo hi list G = (x y : ℕ) → x < w → lo ≤ y → y < hi → seen w lo list x y ≡ G x y

-- the list holds the w columns and h rows of the plane G
abbrev pub Holds : ℕ → ℕ → List ℕ → Plane → Type 0
Holds w h list G = (x y : ℕ) → x < w → y < h → at list w x y ≡ G x y

-- the pass over horizontal edges of a plane of h rows
abbrev pub crosswise : {A : Type 0} → (A → Plane → Plane) → ℕ → (ℕ → ℕ → Option A) → Plane → Plane
crosswise filter h segment P = transposed (pass filter h segment (transposed P))
