-- Four lines side by side: written row by row, they are laid in the window's place.
use Prim.Native.Nat.{ℕ, ◌+◌, ◌*◌, ◌<◌}
use mathlib.Core.Path.{◌≡◌, refl, ap, ◌∙◌}
use mathlib.Core.List.{List, [], ◌∷◌}
use mathlib.Core.Logic.{⊎_elim}
use native.Mathlib.Omega.{arith}
use lib.ListN.{length, get_or, set}
use Rattle.ints.proofs.Laws.{either}
use Rattle.filter.specs.Kernel.{samples_of}
use Rattle.lines.specs.declared.Line.{Line}
use Rattle.picture.specs.Plane.{Plane}
use Rattle.picture.proofs.Index.{cases4}
use Rattle.planes.specs.Window.{spot, Strides, Filtered, Put}
use Rattle.planes.proofs.Windows.{put_none, put_more}
use Rattle.window_lines.specs.declared.Lines.{Lines}
use Rattle.window_lines.specs.Line.{laid, line_in}

pub put_four : (at a b c d : ℕ) (xs : List ℕ) → at + 3 < length xs
    → Put 4 at 1 (a ∷ b ∷ c ∷ d ∷ []) xs (set (set (set (set xs at a) (at + 1) b) (at + 2) c) (at + 3) d)
put_four at a b c d xs room =
    let v : List ℕ = a ∷ b ∷ c ∷ d ∷ [] in
    let w = put_more 0 at 1 at v xs _ (omega arith) (omega arith) (omega arith) (put_none at 1 v xs) in
    let x = put_more 1 at 1 (at + 1) v xs _ (omega arith) (omega arith) (omega arith) w in
    let y = put_more 2 at 1 (at + 2) v xs _ (omega arith) (omega arith) (omega arith) x in
    put_more 3 at 1 (at + 3) v xs _ (omega arith) (omega arith) (omega arith) y

-- `after` is `before` with the first n rows of a window of four lines side by side written: sample i of line j is
-- `samples i j`
record Laid (n : ℕ) (samples : Plane) (base across : ℕ) (before after : List ℕ) : Type 0 where
  len : length after ≡ length before
  within : (i j : ℕ) → i < n → j < 4 → get_or after (spot base across 1 i j) 0 ≡ samples i j
  beyond : (k : ℕ) → ((i j : ℕ) → i < n → j < 4 → k ≡ spot base across 1 i j → ⊥) → get_or after k 0 ≡ get_or before k 0

module _ (samples : Plane) (base across : ℕ) (sep : Strides across 1) (xs : List ℕ) where
  laid_none : Laid 0 samples base across xs xs
  laid_none = record { len = refl; within = λ i j hi hj. absurd (omega arith); beyond = λ k h. refl }

  laid_more : (n at : ℕ) (ys zs : List ℕ) → n < 8 → at ≡ base + n * across → Laid n samples base across xs ys
      → Put 4 at 1 (samples n 0 ∷ samples n 1 ∷ samples n 2 ∷ samples n 3 ∷ []) ys zs
      → Laid (n + 1) samples base across xs zs
  laid_more n at ys zs less is w p = record {
    len = p.len ∙ w.len;
    within = λ i j hi hj.
        ⊎_elim
        (λ before.
        p.beyond (spot base across 1 i j)
        (λ k hk e.
        let z : i ≡ n = (sep.apart i j n k (omega arith) hj less hk (omega arith)).0 in
        omega arith)
        ∙ w.within i j before hj)
        (λ now.
        let z : i ≡ n = omega arith in
        rw z
        (ap (λ (m : ℕ). get_or zs m 0) (omega arith)
        ∙ p.within j hj
        ∙ cases4 (λ (k : ℕ). get_or (samples n 0 ∷ samples n 1 ∷ samples n 2 ∷ samples n 3 ∷ []) k 0 ≡ samples n k) refl
        refl refl refl j hj))
        (either i n);
    beyond =
        λ k h. p.beyond k (λ j hj e. h n j (omega arith) hj (omega arith))
        ∙ w.beyond k (λ i j hi hj. h i j (omega arith) hj);
  }

-- row i of four lines
abbrev row : Lines → ℕ → List ℕ
row w i =
    let at : Line → ℕ = λ l. get_or (samples_of l) i 0 in
    at w.l0 ∷ at w.l1 ∷ at w.l2 ∷ at w.l3 ∷ []

module _ (base across : ℕ) (sep : Strides across 1) (w : Lines) {xs x0 x1 x2 x3 x4 x5 x6 x7 : List ℕ}
    (p0 : Put 4 base 1 (row w 0) xs x0) (p1 : Put 4 (base + across) 1 (row w 1) x0 x1)
    (p2 : Put 4 (base + 2 * across) 1 (row w 2) x1 x2) (p3 : Put 4 (base + 3 * across) 1 (row w 3) x2 x3)
    (p4 : Put 4 (base + 4 * across) 1 (row w 4) x3 x4) (p5 : Put 4 (base + 5 * across) 1 (row w 5) x4 x5)
    (p6 : Put 4 (base + 6 * across) 1 (row w 6) x5 x6) (p7 : Put 4 (base + 7 * across) 1 (row w 7) x6 x7) where
  abbrev samples : Plane
  samples i j = get_or (samples_of (line_in w j)) i 0

  pub rows_put : Filtered 4 (laid w) base across 1 xs x7
  rows_put =
      let l0 =
      laid_more samples base across sep xs 0 base xs x0 (omega arith) (omega arith)
      (laid_none samples base across sep xs) p0 in
      let l1 = laid_more samples base across sep xs 1 (base + across) x0 x1 (omega arith) (omega arith) l0 p1 in
      let l2 = laid_more samples base across sep xs 2 (base + 2 * across) x1 x2 (omega arith) refl l1 p2 in
      let l3 = laid_more samples base across sep xs 3 (base + 3 * across) x2 x3 (omega arith) refl l2 p3 in
      let l4 = laid_more samples base across sep xs 4 (base + 4 * across) x3 x4 (omega arith) refl l3 p4 in
      let l5 = laid_more samples base across sep xs 5 (base + 5 * across) x4 x5 (omega arith) refl l4 p5 in
      let l6 = laid_more samples base across sep xs 6 (base + 6 * across) x5 x6 (omega arith) refl l5 p6 in
      let l7 = laid_more samples base across sep xs 7 (base + 7 * across) x6 x7 (omega arith) refl l6 p7 in
      record { len = l7.len; within = l7.within; beyond = l7.beyond }
