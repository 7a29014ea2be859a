-- Four chroma lines side by side in a window: the two rows next to the edge are written.
use Prim.Native.Nat.{ℕ, ◌+◌, ◌*◌, ◌<◌}
use mathlib.Core.Path.{◌≡◌, sym, ap, ◌∙◌}
use mathlib.Core.List.{List, [], ◌∷◌}
use native.Mathlib.Omega.{arith}
use lib.ListN.{get_or}
use Rattle.filter.specs.declared.ChromaFilter.{ChromaFilter}
use Rattle.filter.specs.Answer.{chroma_of}
use Rattle.filter.specs.Kernel.{chroma_line_of, kernel}
use Rattle.lines.specs.declared.ChromaLine.{ChromaLine}
use Rattle.lines.specs.Chroma.{chroma_line}
use Rattle.picture.specs.Plane.{Plane}
use Rattle.picture.proofs.Index.{cases4, cases8}
use Rattle.planes.specs.Window.{spot, window_at, Strides, Filtered, Put}
use Rattle.planes.proofs.Windows.{window_at_lem}
use Rattle.chroma_windows.specs.Line.{chroma_line_at}

module _ (t : ChromaFilter) (base across : ℕ) (sep : Strides across 1) (xs ys zs : List ℕ) (a b c d : ChromaLine)
    (fa : a ≡ chroma_line t.largest t.tc (chroma_line_at xs (base + 2 * across) across))
    (fb : b ≡ chroma_line t.largest t.tc (chroma_line_at xs (base + 2 * across + 1) across))
    (fc : c ≡ chroma_line t.largest t.tc (chroma_line_at xs (base + 2 * across + 2) across))
    (fd : d ≡ chroma_line t.largest t.tc (chroma_line_at xs (base + 2 * across + 3) across))
    (put3 : Put 4 (base + 2 * across + across) 1 (a.p0 ∷ b.p0 ∷ c.p0 ∷ d.p0 ∷ []) xs ys)
    (put4 : Put 4 (base + 2 * across + 2 * across) 1 (a.q0 ∷ b.q0 ∷ c.q0 ∷ d.q0 ∷ []) ys zs) where
  abbrev window : Plane
  window = window_at xs base across 1

  -- the line from `at` is the window's line j
  read : (k i j : ℕ) → i < 8 → j < 4 → k ≡ spot base across 1 i j → get_or xs k 0 ≡ window i j
  read k i j hi hj e = ap (λ (n : ℕ). get_or xs n 0) e ∙ sym (window_at_lem xs base across 1 i j hi hj)

  side : (j at : ℕ) → j < 4 → at ≡ base + j * 1 + 2 * across → chroma_line_at xs at across ≡ chroma_line_of window j
  side j at hj e = λ i. record {
    p1 = read at 2 j (omega arith) hj (omega arith) i;
    p0 = read (at + across) 3 j (omega arith) hj (omega arith) i;
    q0 = read (at + 2 * across) 4 j (omega arith) hj (omega arith) i;
    q1 = read (at + 3 * across) 5 j (omega arith) hj (omega arith) i;
  }

  -- it is filtered
  abbrev out : ℕ → ChromaLine
  out j = chroma_line t.largest t.tc (chroma_line_of window j)

  line_out : (j at : ℕ) {r : ChromaLine} → j < 4 → at ≡ base + j * 1 + 2 * across
      → r ≡ chroma_line t.largest t.tc (chroma_line_at xs at across) → r ≡ out j
  line_out j at hj e made = made ∙ ap (chroma_line t.largest t.tc) (side j at hj e)

  -- the four samples next to the edge, on one side of it
  four : (f : ChromaLine → ℕ) (j : ℕ) → j < 4 → get_or (f a ∷ f b ∷ f c ∷ f d ∷ []) j 0 ≡ f (out j)
  four f =
      cases4 (λ (j : ℕ). get_or (f a ∷ f b ∷ f c ∷ f d ∷ []) j 0 ≡ f (out j))
      (ap f (line_out 0 _ (omega arith) (omega arith) fa))
      (ap f (line_out 1 _ (omega arith) (omega arith) fb))
      (ap f (line_out 2 _ (omega arith) (omega arith) fc))
      (ap f (line_out 3 _ (omega arith) (omega arith) fd))

  abbrev Right : ℕ → ℕ → Type 0
  Right j i = get_or zs (spot base across 1 i j) 0 ≡ kernel (chroma_of t) window i j

  -- sample i does not stand in the row of sample r
  other : (i j r at : ℕ) → i < 8 → j < 4 → r < 8 → (i ≡ r → ⊥) → at ≡ base + r * across
      → (h : ℕ) → h < 4 → spot base across 1 i j ≡ at + h * 1 → ⊥
  other i j r at hi hj hr ne e h hh q = ne (sep.apart i j r h hi hj hr hh (omega arith)).0

  untouched : (i j : ℕ) → i < 8 → j < 4 → (i ≡ 3 → ⊥) → (i ≡ 4 → ⊥)
      → get_or zs (spot base across 1 i j) 0 ≡ window i j
  untouched i j hi hj n3 n4 =
      put4.beyond _ (other i j 4 _ hi hj (omega arith) n4 (omega arith))
      ∙ put3.beyond _ (other i j 3 _ hi hj (omega arith) n3 (omega arith))
      ∙ sym (window_at_lem xs base across 1 i j hi hj)

  row3 : (j : ℕ) → j < 4 → Right j 3
  unfolding kernel
  row3 j hj =
      put4.beyond _ (other 3 j 4 _ (omega arith) hj (omega arith) (λ e. omega arith) (omega arith))
      ∙ ap (λ (i : ℕ). get_or ys i 0) (omega arith)
      ∙ put3.within j hj
      ∙ four (λ r. r.p0) j hj

  row4 : (j : ℕ) → j < 4 → Right j 4
  unfolding kernel
  row4 j hj = ap (λ (i : ℕ). get_or zs i 0) (omega arith) ∙ put4.within j hj ∙ four (λ r. r.q0) j hj

  all : (j : ℕ) → j < 4 → (i : ℕ) → i < 8 → Right j i
  unfolding kernel chroma_line
  all j hj =
      cases8 (Right j)
      (untouched 0 j (omega arith) hj (λ e. omega arith) (λ e. omega arith))
      (untouched 1 j (omega arith) hj (λ e. omega arith) (λ e. omega arith))
      (untouched 2 j (omega arith) hj (λ e. omega arith) (λ e. omega arith))
      (row3 j hj)
      (row4 j hj)
      (untouched 5 j (omega arith) hj (λ e. omega arith) (λ e. omega arith))
      (untouched 6 j (omega arith) hj (λ e. omega arith) (λ e. omega arith))
      (untouched 7 j (omega arith) hj (λ e. omega arith) (λ e. omega arith))

  pub chroma_put : Filtered 4 (kernel (chroma_of t)) base across 1 xs zs
  chroma_put = record {
    len = put4.len ∙ put3.len;
    within = λ i j hi hj. all j hj i hi;
    beyond = λ k h.
        put4.beyond k (λ j hj e. h 4 j (omega arith) hj (omega arith))
        ∙ put3.beyond k (λ j hj e. h 3 j (omega arith) hj (omega arith));
  }
