-- Chroma lines of neighbouring samples in a window, one after the other: four samples are read, the two next to the
-- edge are written.
use Prim.Native.Nat.{ℕ, ◌+◌, ◌*◌, ◌<◌}
use mathlib.Core.Path.{◌≡◌, ap, ◌∙◌}
use mathlib.Core.List.{List, [], ◌∷◌}
use mathlib.Core.Logic.{⊎_elim}
use native.Mathlib.Omega.{arith}
use lib.ListN.{get_or}
use Rattle.ints.proofs.Laws.{either}
use Rattle.filter.specs.declared.ChromaFilter.{ChromaFilter}
use Rattle.filter.specs.Answer.{chroma_of}
use Rattle.filter.specs.Kernel.{chroma_line_of, kernel}
use Rattle.lines.specs.declared.ChromaLine.{ChromaLine}
use Rattle.lines.specs.Chroma.{chroma_line}
use Rattle.picture.specs.Plane.{Plane}
use Rattle.picture.proofs.Index.{cases8}
use Rattle.planes.specs.Window.{spot, window_at, Strides, Filtered, Put}
use Rattle.planes.proofs.Windows.{filtered_line, line_left}
use Rattle.chroma_windows.specs.Line.{chroma_line_at}

module _ (t : ChromaFilter) (base along : ℕ) (sep : Strides 1 along) (xs ys zs : List ℕ) (j : ℕ) (less : j < 4)
    (done : Filtered j (kernel (chroma_of t)) base 1 along xs ys) (l : ChromaLine)
    (made : l ≡ chroma_line t.largest t.tc (chroma_line_at ys (base + j * along + 2) 1))
    (put : Put 2 (base + j * along + 2 + 1) 1 (l.p0 ∷ l.q0 ∷ []) ys zs) where
  abbrev W : Plane
  W = window_at xs base 1 along

  left : (i : ℕ) → i < 8 → get_or ys (spot base 1 along i j) 0 ≡ W i j
  left = line_left (kernel (chroma_of t)) base 1 along sep xs j ys less done

  -- the line that was read is the window's
  at : (k i : ℕ) → i < 8 → k ≡ spot base 1 along i j → get_or ys k 0 ≡ W i j
  at k i hi e = ap (λ (n : ℕ). get_or ys n 0) e ∙ left i hi

  line : chroma_line_at ys (base + j * along + 2) 1 ≡ chroma_line_of W j
  line = λ i. record {
    p1 = at (base + j * along + 2) 2 (omega arith) (omega arith) i;
    p0 = at (base + j * along + 2 + 1) 3 (omega arith) (omega arith) i;
    q0 = at (base + j * along + 2 + 2 * 1) 4 (omega arith) (omega arith) i;
    q1 = at (base + j * along + 2 + 3 * 1) 5 (omega arith) (omega arith) i;
  }

  out : l ≡ chroma_line t.largest t.tc (chroma_line_of W j)
  out = made ∙ ap (chroma_line t.largest t.tc) line

  -- a sample that is not written is kept, and the filter keeps it too
  kept : (i : ℕ) → i < 8 → (i ≡ 3 → ⊥) → (i ≡ 4 → ⊥) → get_or zs (spot base 1 along i j) 0 ≡ W i j
  kept i hi n3 n4 =
      put.beyond (spot base 1 along i j)
      (λ k hk e. ⊎_elim (λ z. n3 (omega arith)) (λ z. n4 (omega arith)) (either k 1))
      ∙ left i hi

  abbrev Right : ℕ → Type 0
  Right i = get_or zs (spot base 1 along i j) 0 ≡ kernel (chroma_of t) W i j

  right : (i : ℕ) → i < 8 → Right i
  unfolding kernel chroma_line
  right =
      cases8 Right
      (kept 0 (omega arith) (λ e. omega arith) (λ e. omega arith))
      (kept 1 (omega arith) (λ e. omega arith) (λ e. omega arith))
      (kept 2 (omega arith) (λ e. omega arith) (λ e. omega arith))
      (ap (λ (k : ℕ). get_or zs k 0) (omega arith) ∙ put.within 0 (omega arith) ∙ ap (λ (r : ChromaLine). r.p0) out)
      (ap (λ (k : ℕ). get_or zs k 0) (omega arith) ∙ put.within 1 (omega arith) ∙ ap (λ (r : ChromaLine). r.q0) out)
      (kept 5 (omega arith) (λ e. omega arith) (λ e. omega arith))
      (kept 6 (omega arith) (λ e. omega arith) (λ e. omega arith))
      (kept 7 (omega arith) (λ e. omega arith) (λ e. omega arith))

  pub chroma_more : Filtered (j + 1) (kernel (chroma_of t)) base 1 along xs zs
  chroma_more =
      filtered_line (kernel (chroma_of t)) base 1 along sep xs j ys zs less done put.len right
      (λ k n. put.beyond k (λ i hi e. n (3 + i) (omega arith) (omega arith)))
