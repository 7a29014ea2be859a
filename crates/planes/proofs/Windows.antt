-- A window that is filtered in place line by line: each line is read before it is written, and no other sample moves.
use Prim.Native.Nat.{ℕ, ◌+◌, ◌*◌, ◌<◌}
use mathlib.Core.Path.{◌≡◌, refl, sym, ap, ap₂, ◌∙◌}
use mathlib.Core.List.{List}
use mathlib.Core.Logic.{⊎_elim}
use native.Mathlib.Omega.{arith}
use lib.ListN.{length, get_or, set, length-set}
use lib.Seq.{get_or-set_same, get_or-set_other}
use Rattle.ints.proofs.Laws.{either}
use Rattle.picture.specs.Plane.{Plane}
use Rattle.planes.specs.Window.{spot, window_at, Strides, Filtered, Put}
use Rattle.picture.proofs.Index.{multiples}

-- a window's sample is the list's
pub window_at_lem : (list : List ℕ) (base across along i j : ℕ) → i < 8 → j < 4
    → window_at list base across along i j ≡ get_or list (spot base across along i j) 0
unfolding window_at
window_at_lem list base across along i j hi hj =
    ap₂ (λ (k l : ℕ). get_or list (spot base across along k l) 0) (omega arith) (omega arith)

-- ---- n samples of the list v are written from `at`, `step` apart

pub put_none : (at step : ℕ) (v xs : List ℕ) → Put 0 at step v xs xs
put_none at step v xs = record { len = refl; within = λ k h. absurd (omega arith); beyond = λ i h. refl }

pub put_more : (n at step i : ℕ) (v xs ys : List ℕ) → 0 < step → i ≡ at + n * step → i < length ys
    → Put n at step v xs ys
    → Put (n + 1) at step v xs (set ys i (get_or v n 0))
put_more n at step i v xs ys p is room w = record {
  len = length-set ys i (get_or v n 0) ∙ w.len;
  within = λ k h.
      ⊎_elim
      (λ less.
      let m : k * step < n * step = multiples step p less in
      get_or-set_other ys i (at + k * step) (get_or v n 0) 0 (λ e. omega arith) ∙ w.within k less)
      (λ more.
      let e : k ≡ n = omega arith in
      let at_i : at + k * step ≡ i = ap (λ (m : ℕ). at + m * step) e ∙ sym is in
      ap (λ (m : ℕ). get_or (set ys i (get_or v n 0)) m 0) at_i
      ∙ get_or-set_same ys i (get_or v n 0) 0 room
      ∙ ap (λ (m : ℕ). get_or v m 0) (sym e))
      (either k n);
  beyond = λ j h.
      get_or-set_other ys i j (get_or v n 0) 0 (λ e. h n (omega arith) (e ∙ is))
      ∙ w.beyond j (λ k l. h k (omega arith));
}

-- ---- the lines of a window

-- filters that agree on this window
pub filtered_as : (n : ℕ) (f g : Plane → Plane) (base across along : ℕ) (xs ys : List ℕ)
    → ((i j : ℕ) → i < 8 → j < n → f (window_at xs base across along) i j ≡ g (window_at xs base across along) i j)
    → Filtered n f base across along xs ys → Filtered n g base across along xs ys
filtered_as n f g base across along xs ys same w = record {
  len = w.len;
  within = λ i j hi hj. w.within i j hi hj ∙ same i j hi hj;
  beyond = w.beyond;
}

-- a filter that changes nothing here
pub filtered_same : (f : Plane → Plane) (base across along : ℕ) (xs : List ℕ)
    → ((i j : ℕ) → i < 8 → j < 4 → f (window_at xs base across along) i j ≡ window_at xs base across along i j)
    → Filtered 4 f base across along xs xs
filtered_same f base across along xs same = record {
  len = refl;
  within = λ i j hi hj. sym (window_at_lem xs base across along i j hi hj) ∙ sym (same i j hi hj);
  beyond = λ k h. refl;
}

module _ (f : Plane → Plane) (base across along : ℕ) (sep : Strides across along) (xs : List ℕ) where
  pub filtered_none : Filtered 0 f base across along xs xs
  filtered_none = record { len = refl; within = λ i j hi hj. absurd (omega arith); beyond = λ k h. refl }

  -- a line that is not filtered yet is as it was
  pub line_left : (n : ℕ) (ys : List ℕ) → n < 4 → Filtered n f base across along xs ys
      → (i : ℕ) → i < 8 → get_or ys (spot base across along i n) 0 ≡ window_at xs base across along i n
  line_left n ys less w i hi =
      w.beyond (spot base across along i n)
      (λ k l hk hl e.
      let q : n ≡ l = (sep.apart i n k l hi less hk (omega arith) (omega arith)).1 in
      omega arith)
      ∙ sym (window_at_lem xs base across along i n hi less)

  -- one line more: its eight samples are written, or stay where the filter keeps them
  pub filtered_line : (n : ℕ) (ys zs : List ℕ) → n < 4 → Filtered n f base across along xs ys
      → length zs ≡ length ys
      → ((i : ℕ) → i < 8 → get_or zs (spot base across along i n) 0 ≡ f (window_at xs base across along) i n)
      → ((k : ℕ) → ((i : ℕ) → i < 8 → k ≡ spot base across along i n → ⊥) → get_or zs k 0 ≡ get_or ys k 0)
      → Filtered (n + 1) f base across along xs zs
  filtered_line n ys zs less w len is rest = record {
    len = len ∙ w.len;
    within = λ i j hi hj.
        ⊎_elim
        (λ before.
        rest (spot base across along i j)
        (λ k hk q.
        let z : j ≡ n = (sep.apart i j k n hi (omega arith) hk less (omega arith)).1 in
        omega arith)
        ∙ w.within i j hi before)
        (λ now.
        let z : j ≡ n = omega arith in
        rw z (is i hi))
        (either j n);
    beyond = λ k h. rest k (λ i hi. h i n hi (omega arith)) ∙ w.beyond k (λ i j hi hj. h i j hi (omega arith));
  }

  -- all eight are written
  pub filtered_more : (n : ℕ) (v ys zs : List ℕ) → n < 4 → Filtered n f base across along xs ys
      → Put 8 (base + n * along) across v ys zs
      → ((i : ℕ) → i < 8 → get_or v i 0 ≡ f (window_at xs base across along) i n)
      → Filtered (n + 1) f base across along xs zs
  filtered_more n v ys zs less w p is =
      filtered_line n ys zs less w p.len (λ i hi. p.within i hi ∙ is i hi) p.beyond
