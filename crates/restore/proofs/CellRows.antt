-- Cell rows: which plane's samples one is, and how it is stored.
use Prim.Native.Nat.{ℕ, ◌+◌, ◌-◌, ◌*◌, ◌/◌, ◌≤◌, ◌<◌}
use mathlib.Core.Path.{◌≡◌, sym, ap, ap₂, ◌∙◌, subst}
use mathlib.Core.Bool.{Bool, true, false, cond}
use mathlib.Core.List.{List}
use mathlib.Core.Logic.{◌⊎◌, inl, inr, ⊎_elim}
use native.Mathlib.Nat.{add-mul, div-eq_of_lt-le}
use native.Mathlib.Omega.{arith}
use lib.ListN.{length, get_or, set, length-set}
use lib.Seq.{get_or-set_same, get_or-set_other}
use Rattle.ints.proofs.Laws.{either}
use Rattle.picture.specs.Cell.{suppressed, cell_at, cell_number}
use Rattle.planes.proofs.Parts.{part, length_part, part_at}
use Rattle.restore.specs.CellRows.{RowRestored}
use Rattle.restore.specs.Restored.{sample_of}

-- ---- the row that the mark selects

module _ (at count : ℕ) (mark : Bool) (os xs r : List ℕ) (ho : at + count ≤ length os) (hx : at + count ≤ length xs)
    (is : r ≡ part at count (cond mark os xs)) where
  long : (m : Bool) → at + count ≤ length (cond m os xs)
  long true = ho
  long false = hx

  pub row_length : length r ≡ count
  row_length = ap length is ∙ length_part at count (cond mark os xs) (long mark)

  pub row_at : mark ≡ true → (k : ℕ) → k < count → get_or r k 0 ≡ get_or os (at + k) 0
  row_at m k h = ap (λ (l : List ℕ). get_or l k 0) (rw m at is) ∙ part_at at count os ho k h

-- ---- two to four samples stored: the first two and the last two, which may be the same

module _ (at : ℕ) (r : List ℕ) where
  put : (k j : ℕ) (ys : List ℕ) → j ≡ at + k → j < length ys → get_or (set ys j (get_or r k 0)) (at + k) 0
      ≡ get_or r k 0
  put k j ys e h = ap (λ (i : ℕ). get_or (set ys j (get_or r k 0)) i 0) (sym e) ∙ get_or-set_same ys j (get_or r k 0) 0
      h

  -- a sample that is there stays, also where it is stored once more
  kept : (m k j : ℕ) (ys : List ℕ) → j ≡ at + k → j < length ys → get_or ys (at + m) 0 ≡ get_or r m 0
      → get_or (set ys j (get_or r k 0)) (at + m) 0 ≡ get_or r m 0
  kept m k j ys e h g =
      ⊎_elim (λ less. get_or-set_other ys j (at + m) (get_or r k 0) 0 (λ z. omega arith) ∙ g)
      (λ le.
      ⊎_elim (λ more. get_or-set_other ys j (at + m) (get_or r k 0) 0 (λ z. omega arith) ∙ g)
      (λ ge. let q : m ≡ k = omega arith in rw q (put k j ys e h)) (either k m))
      (either m k)

  -- the list after the four stores
  abbrev pub stored : ℕ → List ℕ → List ℕ
  stored count xs =
      set (set (set (set xs at (get_or r 0 0)) (at + 1) (get_or r 1 0)) (at + count - 2) (get_or r (count - 2) 0))
      (at + count - 1) (get_or r (count - 1) 0)

  module _ (count : ℕ) (xs : List ℕ) (room : at + count ≤ length xs) (low : 2 ≤ count) (high : count ≤ 4) where
    abbrev s0 : List ℕ
    s0 = set xs at (get_or r 0 0)

    abbrev s1 : List ℕ
    s1 = set s0 (at + 1) (get_or r 1 0)

    abbrev s2 : List ℕ
    s2 = set s1 (at + count - 2) (get_or r (count - 2) 0)

    then1 : (m : ℕ) → get_or s0 (at + m) 0 ≡ get_or r m 0 → get_or s1 (at + m) 0 ≡ get_or r m 0
    then1 m = kept m 1 (at + 1) s0 (omega arith) (simp length-set (omega arith))

    then2 : (m : ℕ) → get_or s1 (at + m) 0 ≡ get_or r m 0 → get_or s2 (at + m) 0 ≡ get_or r m 0
    then2 m = kept m (count - 2) (at + count - 2) s1 (omega arith) (simp length-set (omega arith))

    then3 : (m : ℕ) → get_or s2 (at + m) 0 ≡ get_or r m 0 → get_or (stored count xs) (at + m) 0 ≡ get_or r m 0
    then3 m = kept m (count - 1) (at + count - 1) s2 (omega arith) (simp length-set (omega arith))

    first : get_or s0 (at + 0) 0 ≡ get_or r 0 0
    first = put 0 at xs (omega arith) (omega arith)

    second : get_or s1 (at + 1) 0 ≡ get_or r 1 0
    second = put 1 (at + 1) s0 (omega arith) (simp length-set (omega arith))

    third : get_or s2 (at + (count - 2)) 0 ≡ get_or r (count - 2) 0
    third = put (count - 2) (at + count - 2) s1 (omega arith) (simp length-set (omega arith))

    fourth : get_or (stored count xs) (at + (count - 1)) 0 ≡ get_or r (count - 1) 0
    fourth = put (count - 1) (at + count - 1) s2 (omega arith) (simp length-set (omega arith))

    abbrev Here : ℕ → Type 0
    Here k = get_or (stored count xs) (at + k) 0 ≡ get_or r k 0

    within : (k : ℕ) → k < count → Here k
    within k h =
        ⊎_elim
        (λ near.
        ⊎_elim (λ zero. subst Here (omega arith) (then3 0 (then2 0 (then1 0 first))))
        (λ one. subst Here (omega arith) (then3 1 (then2 1 second))) (either k 1))
        (λ far.
        ⊎_elim (λ less. subst Here (omega arith) (then3 (count - 2) third)) (λ last. subst Here (omega arith) fourth)
        (either (k + 1) count))
        (either k 2)

    other : (i : ℕ) → (i < at) ⊎ (at + count ≤ i) → get_or (stored count xs) i 0 ≡ get_or xs i 0
    other i o =
        get_or-set_other s2 (at + count - 1) i (get_or r (count - 1) 0) 0
        (λ z. ⊎_elim (λ p. omega arith) (λ p. omega arith) o)
        ∙ get_or-set_other s1 (at + count - 2) i (get_or r (count - 2) 0) 0
        (λ z. ⊎_elim (λ p. omega arith) (λ p. omega arith) o)
        ∙ get_or-set_other s0 (at + 1) i (get_or r 1 0) 0 (λ z. ⊎_elim (λ p. omega arith) (λ p. omega arith) o)
        ∙ get_or-set_other xs at i (get_or r 0 0) 0 (λ z. ⊎_elim (λ p. omega arith) (λ p. omega arith) o)

    pub row_stored : (mark : Bool) (os : List ℕ) → mark ≡ true
        → ((k : ℕ) → k < count → get_or r k 0 ≡ get_or os (at + k) 0)
        → RowRestored at count mark os xs (stored count xs)
    row_stored mark os m is = record {
      within = λ k h. rw m (within k h ∙ is k h);
      left = λ i h. other i (inl h);
      right = λ i h. other i (inr h);
    }

-- ---- a row of a plane, cell by cell

-- the samples before t are done
pub record LineDone (pcm : Bool) (cells : List ℕ) (width row across : ℕ) (os xs : List ℕ) (t : ℕ)
    (ys : List ℕ) : Type 0 where
  pub done : (x : ℕ) → x < t
      → get_or ys x 0 ≡ sample_of pcm cells (cell_number width (x / across) row) (get_or os x 0) (get_or xs x 0)
  pub left : (x : ℕ) → t ≤ x → get_or ys x 0 ≡ get_or xs x 0

module _ (pcm : Bool) (cells : List ℕ) (width row across : ℕ) (os xs : List ℕ) where
  pub line_more : (gx n : ℕ) (mark : Bool) (ys zs : List ℕ) → n ≡ cell_number width gx row
      → mark ≡ suppressed pcm (cell_at cells n)
      → LineDone pcm cells width row across os xs (gx * across) ys → RowRestored (gx * across) across mark os ys zs
      → LineDone pcm cells width row across os xs ((gx + 1) * across) zs
  line_more gx n mark ys zs number is u w =
      let step : (gx + 1) * across ≡ gx * across + 1 * across = add-mul gx 1 across in
      record {
        done = λ x h.
            ⊎_elim
            (λ before. w.left x before ∙ u.done x before)
            (λ now.
            let k : ℕ = x - gx * across in
            let e : x ≡ gx * across + k = omega arith in
            let cell : n ≡ cell_number width (x / across) row =
            number ∙ ap (λ (g : ℕ). cell_number width g row) (sym (div-eq_of_lt-le across now h)) in
            ap (λ (i : ℕ). get_or zs i 0) e
            ∙ w.within k (omega arith)
            ∙ ap (λ (i : ℕ). cond mark (get_or os i 0) (get_or ys i 0)) (sym e)
            ∙ ap₂ (λ (m : Bool) (v : ℕ). cond m (get_or os x 0) v) is (u.left x now)
            ∙ ap (λ (m : ℕ). sample_of pcm cells m (get_or os x 0) (get_or xs x 0)) cell)
            (either x (gx * across));
        left = λ x h. w.right x (omega arith) ∙ u.left x (omega arith);
      }
