-- How an open segment is filtered: its four lines by clause 8.7.2.5.7 (luma) or 8.7.2.5.8 (chroma).
use Rattle.std.specs.Prelude.{ℕ, List, [], ◌∷◌, get_or}
use Rattle.lines.specs.declared.ChromaLine.{ChromaLine}
use Rattle.lines.specs.declared.Line.{Line}
use Rattle.lines.specs.Chroma.{chroma_line}
use Rattle.lines.specs.Decision.{decision}
use Rattle.lines.specs.Luma.{luma_line}
use Rattle.picture.specs.Plane.{Plane}

-- the thresholds of an open segment and the largest sample: β, tC and that; or tC and that
pub data Filter : Type 0 where
  luma : ℕ → ℕ → ℕ → Filter
  chroma : ℕ → ℕ → Filter

abbrev pub tc_of : Filter → ℕ
tc_of (luma β tc largest) = tc
tc_of (chroma tc largest) = tc

-- line j of a window
abbrev pub line_of : Plane → ℕ → Line
line_of W j = record { p3 = W 0 j; p2 = W 1 j; p1 = W 2 j; p0 = W 3 j; q0 = W 4 j; q1 = W 5 j; q2 = W 6 j; q3 = W 7 j }

abbrev pub chroma_line_of : Plane → ℕ → ChromaLine
chroma_line_of W j = record { p1 = W 2 j; p0 = W 3 j; q0 = W 4 j; q1 = W 5 j }

-- the samples of a line, in the window's order
abbrev pub samples_of : Line → List ℕ
samples_of l = l.p3 ∷ l.p2 ∷ l.p1 ∷ l.p0 ∷ l.q0 ∷ l.q1 ∷ l.q2 ∷ l.q3 ∷ []

-- a chroma line changes its four samples alone
abbrev pub chroma_samples_of : Plane → ℕ → ChromaLine → List ℕ
chroma_samples_of W j l = W 0 j ∷ W 1 j ∷ l.p1 ∷ l.p0 ∷ l.q0 ∷ l.q1 ∷ W 6 j ∷ W 7 j ∷ []

-- sample i of line j of a filtered window. Luma: "The decision reads lines 0 and 3 only and holds for all four lines".
unfoldable pub kernel : Filter → Plane → Plane
kernel (luma β tc largest) W i j =
    get_or (samples_of (luma_line (decision β tc (line_of W 0) (line_of W 3)) largest tc (line_of W j))) i 0
kernel (chroma tc largest) W i j = get_or (chroma_samples_of W j (chroma_line largest tc (chroma_line_of W j))) i 0
