-- The geometry of a pass, for any filter, either direction and any way of laying samples out: the windows of the
-- edges are apart, so a list whose windows are filtered one after the other, in place, holds the pass. Positions are
-- a across the edges and b along them. ix a b is where the sample stands in the list, and D says which samples it
-- has.
use Prim.Native.Nat.{ℕ, ◌+◌, ◌-◌, ◌%◌, ◌≤◌, ◌<◌, min}
use mathlib.Core.Path.{◌≡◌, refl, sym, ap, ap₂, ◌∙◌, subst, fun_ext}
use mathlib.Core.Bool.{Bool, true, false, cond, ◌&&◌}
use mathlib.Core.List.{List}
use mathlib.Core.Logic.{◌⊎◌, inl, inr, ⊎_elim}
use mathlib.Core.Option.{Option, none, some}
use native.Mathlib.Omega.{arith}
use borrow.Author.Tests.{lt-ltb, le-ltb}
use lib.Dec.{ltb}
use lib.ListN.{get_or}
use Rattle.ints.proofs.Laws.{either}
use Rattle.filter.specs.Pass.{edge_of, first_line, window, applied, pass}
use Rattle.picture.specs.Plane.{Plane}
use Rattle.planes.specs.Window.{spot, window_at, Filtered, taken}

-- ---- windows

-- planes that agree on a window have one window
pub window_same : (P Q : Plane) (e l : ℕ)
    → ((i j : ℕ) → i < 8 → j < 4 → P (e + i - 4) (l + j) ≡ Q (e + i - 4) (l + j)) → window P e l ≡ window Q e l
unfolding window
window_same P Q e l h = fun_ext (λ i. fun_ext (λ j. h (min i 7) (min j 3) (omega arith) (omega arith)))

-- a window in a list is the window of a plane where the samples are
pub window_in : (P : Plane) (list : List ℕ) (base across along e l : ℕ)
    → ((i j : ℕ) → i < 8 → j < 4 → get_or list (spot base across along i j) 0 ≡ P (e + i - 4) (l + j))
    → window_at list base across along ≡ window P e l
unfolding window window_at
window_in P list base across along e l h =
    fun_ext (λ i. fun_ext (λ j. h (min i 7) (min j 3) (omega arith) (omega arith)))

-- ---- a pass, point by point

module _ {A : Type 0} (filter : A → Plane → Plane) (lim : ℕ) (segment : ℕ → ℕ → Option A) where
  -- no edge: before the first and past the last
  pub pass_off : (P : Plane) (a b : ℕ) → (edge_of a ≡ 0) ⊎ (lim ≤ edge_of a) → pass filter lim segment P a b ≡ P a b
  unfolding pass
  pass_off P a b (inl z) = simp (le-ltb 0 (edge_of a) (omega arith))
  pass_off P a b (inr h) = simp (le-ltb (edge_of a) lim h) (never (ltb 0 (edge_of a)) _)
    where
      never : (t : Bool) (x : ℕ) → cond (t && false) x (P a b) ≡ P a b
      never true x = refl
      never false x = refl

  own : (o : Option A) (P : Plane) (a b : ℕ) → 0 < edge_of a
      → applied filter o (window P (edge_of a) (first_line b)) (a + 4 - edge_of a) (b - first_line b) (P a b)
      ≡ taken filter o (window P (edge_of a) (first_line b)) (a + 4 - edge_of a) (b - first_line b)
  unfolding window
  own none P a b h = ap₂ P (omega arith) (omega arith)
  own (some x) P a b h = refl

  pub pass_on : (P : Plane) (a b : ℕ) → 0 < edge_of a → edge_of a < lim
      → pass filter lim segment P a b
      ≡ taken filter (segment (edge_of a) (first_line b)) (window P (edge_of a) (first_line b)) (a + 4 - edge_of a)
      (b - first_line b)
  unfolding pass
  pass_on P a b p q =
      simp (lt-ltb 0 (edge_of a) p, lt-ltb (edge_of a) lim q) (own (segment (edge_of a) (first_line b)) P a b p)

  -- at an edge or not
  edged_or : (e : ℕ) → ((0 < e) × (e < lim)) ⊎ ((e ≡ 0) ⊎ (lim ≤ e))
  edged_or e =
      ⊎_elim (λ p. ⊎_elim (λ q. inl (p, q)) (λ q. inr (inr q)) (either e lim)) (λ z. inr (inl (omega arith)))
      (either 0 e)

  -- planes that agree at a point and in its window have the same pass there
  pub pass_same : (P Q : Plane) (a b : ℕ) → P a b ≡ Q a b
      → (0 < edge_of a → edge_of a < lim → (i j : ℕ) → i < 8 → j < 4
      → P (edge_of a + i - 4) (first_line b + j) ≡ Q (edge_of a + i - 4) (first_line b + j))
      → pass filter lim segment P a b ≡ pass filter lim segment Q a b
  pass_same P Q a b e h =
      ⊎_elim
      (λ on.
      pass_on P a b on.0 on.1
      ∙ ap (λ (W : Plane). taken filter (segment (edge_of a) (first_line b)) W (a + 4 - edge_of a) (b - first_line b))
      (window_same P Q (edge_of a) (first_line b) (h on.0 on.1))
      ∙ sym (pass_on Q a b on.0 on.1))
      (λ off. pass_off P a b off ∙ e ∙ sym (pass_off Q a b off))
      (edged_or (edge_of a))

-- ---- Q is G where m is below t, and P from there on

pub record Upto (D : ℕ → ℕ → Type 0) (m : ℕ → ℕ → ℕ) (t : ℕ) (G P Q : Plane) : Type 0 where
  pub done : (a b : ℕ) → D a b → m a b < t → Q a b ≡ G a b
  pub left : (a b : ℕ) → D a b → t ≤ m a b → Q a b ≡ P a b

-- ---- a window is filtered in place

module _ {A : Type 0} (filter : A → Plane → Plane) (lim : ℕ) (segment : ℕ → ℕ → Option A) (D : ℕ → ℕ → Type 0)
    (ix : ℕ → ℕ → ℕ)
    (one : (a b c d : ℕ) → D a b → D c d → ix a b ≡ ix c d → (a ≡ c) × (b ≡ d))
    (e s base across along : ℕ) (e8 : e % 8 ≡ 0) (e-low : 8 ≤ e) (e-high : e < lim) (s4 : s % 4 ≡ 0)
    (inside : (i j : ℕ) → i < 8 → j < 4 → D (e + i - 4) (s + j))
    (place : (i j : ℕ) → i < 8 → j < 4 → ix (e + i - 4) (s + j) ≡ spot base across along i j)
    (xs ys : List ℕ) (fil : Filtered 4 (taken filter (segment e s)) base across along xs ys) where
  -- a sample of the window has the pass
  pub here : (a b : ℕ) → edge_of a ≡ e → first_line b ≡ s
      → get_or ys (ix a b) 0 ≡ pass filter lim segment (λ (c d : ℕ). get_or xs (ix c d) 0) a b
  here a b ea sb =
      let i : ℕ = a + 4 - e in
      let j : ℕ = b - s in
      let hi : i < 8 = omega arith in
      let hj : j < 4 = omega arith in
      let P : Plane = λ (c d : ℕ). get_or xs (ix c d) 0 in
      let ia : a ≡ e + i - 4 = omega arith in
      let jb : b ≡ s + j = omega arith in
      ap (λ (n : ℕ). get_or ys n 0) (ap₂ ix ia jb ∙ place i j hi hj)
      ∙ fil.within i j hi hj
      ∙ ap (λ (W : Plane). taken filter (segment e s) W i j)
      (window_in P xs base across along e s (λ k l hk hl. ap (λ (n : ℕ). get_or xs n 0) (sym (place k l hk hl))))
      ∙ ap₂ (λ (c d : ℕ). taken filter (segment c d) (window P c d) (a + 4 - c) (b - d)) (sym ea) (sym sb)
      ∙ sym (pass_on filter lim segment P a b (omega arith) (omega arith))

  -- and every other is as it was
  pub away : (a b : ℕ) → D a b → (edge_of a ≡ e → first_line b ≡ s → ⊥) → get_or ys (ix a b) 0 ≡ get_or xs (ix a b) 0
  away a b d n =
      fil.beyond (ix a b)
      (λ i j hi hj q.
      let z : (a ≡ e + i - 4) × (b ≡ s + j) =
      one a b (e + i - 4) (s + j) d (inside i j hi hj) (q ∙ sym (place i j hi hj)) in
      n (omega arith) (omega arith))

  -- a turn of a loop that goes over windows by m: this window is where m is from t to t'
  pub turn : (m : ℕ → ℕ → ℕ) (t t' : ℕ) (P : Plane)
      → ((a b : ℕ) → D a b → t ≤ m a b → m a b < t' → (edge_of a ≡ e) × (first_line b ≡ s))
      → ((a b : ℕ) → D a b → edge_of a ≡ e → first_line b ≡ s → (t ≤ m a b) × (m a b < t'))
      → t ≤ t'
      → Upto D m t (pass filter lim segment P) P (λ (a b : ℕ). get_or xs (ix a b) 0)
      → Upto D m t' (pass filter lim segment P) P (λ (a b : ℕ). get_or ys (ix a b) 0)
  turn m t t' P to from le u = record {
    done = λ a b d h.
        ⊎_elim
        (λ before. away a b d (λ p q. let z = from a b d p q in omega arith) ∙ u.done a b d before)
        (λ now.
        let z : (edge_of a ≡ e) × (first_line b ≡ s) = to a b d now h in
        here a b z.0 z.1
        ∙ pass_same filter lim segment (λ (c d : ℕ). get_or xs (ix c d) 0) P a b (u.left a b d now)
        (λ p q i j hi hj.
        let w : D (edge_of a + i - 4) (first_line b + j) =
        subst (λ (n : ℕ). D (n + i - 4) (first_line b + j)) (sym z.0)
        (subst (λ (n : ℕ). D (e + i - 4) (n + j)) (sym z.1) (inside i j hi hj)) in
        u.left (edge_of a + i - 4) (first_line b + j) w
        (from (edge_of a + i - 4) (first_line b + j) w (omega arith) (omega arith)).0))
        (either (m a b) t);
    left = λ a b d h.
        away a b d (λ p q. let z = from a b d p q in omega arith) ∙ u.left a b d (omega arith);
  }
