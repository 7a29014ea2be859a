-- The open segments of a list of places: which is the first, and where there is none.
use Prim.Native.Nat.{ℕ, zero, suc, ◌+◌, ◌-◌, ◌*◌, ◌/◌, ◌<◌}
use mathlib.Core.Path.{◌≡◌, refl, ap, ap₂, ◌∙◌}
use mathlib.Core.Bool.{Bool, true, false, cond}
use mathlib.Core.List.{List, [], ◌∷◌, ◌++◌, head?}
use mathlib.Core.Logic.{◌⊎◌, inl, inr}
use mathlib.Core.Option.{some}
use native.Mathlib.Omega.{arith}
use Rattle.filter.specs.Open.{keep}
use Rattle.filter.specs.Places.{Place, OnGrid, Earlier, in_turn, edges_in, segments_along, places_across}
use Rattle.filter.specs.Segment.{Direction}
use Rattle.picture.specs.Scale.{Component}

-- ---- what is kept of lists one after another

module _ {A : Type 0} (test : A → Bool) where
  pub keep_append : (a b : List A) → keep test (a ++ b) ≡ keep test a ++ keep test b
  keep_append [] b = refl
  keep_append (x ∷ r) b = go (test x) (keep_append r b)
    where
      go : (t : Bool) → keep test (r ++ b) ≡ keep test r ++ keep test b
          → cond t (x ∷ keep test (r ++ b)) (keep test (r ++ b))
          ≡ cond t (x ∷ keep test r) (keep test r) ++ keep test b
      go true e = ap (λ (l : List A). x ∷ l) e
      go false e = e

  -- the first of two lists decides where it has one, else the second
  pub first_of_first : (a b : List A) {x : A} → head? (keep test a) ≡ some x → head? (keep test (a ++ b)) ≡ some x
  first_of_first a b e = rw keep_append (go (keep test a) (keep test b) e)
    where
      go : (l m : List A) {x : A} → head? l ≡ some x → head? (l ++ m) ≡ some x
      go [] m e = absurd (let z : ◌≡◌ {A = ℕ} 0 1 = cc in omega arith)
      go (y ∷ l) m e = e

  pub first_of_second : (a b : List A) → keep test a ≡ [] → keep test (a ++ b) ≡ keep test b
  first_of_second a b e = keep_append a b ∙ ap (λ (l : List A). l ++ keep test b) e

  -- ---- of lists in turn

  pub none_in_turn : (n : ℕ) (f : ℕ → List A) → ((k : ℕ) → k < n → keep test (f k) ≡ []) → keep test (in_turn n f) ≡ []
  none_in_turn zero f h = refl
  none_in_turn (suc n) f h =
      first_of_second (f 0) (in_turn n (λ k. f (suc k))) (h 0 (omega arith))
      ∙ none_in_turn n (λ k. f (suc k)) (λ k hk. h (suc k) (omega arith))

  pub first_in_turn : (n : ℕ) (f : ℕ → List A) (k : ℕ) → k < n → ((j : ℕ) → j < k → keep test (f j) ≡ []) → {x : A}
      → head? (keep test (f k)) ≡ some x → head? (keep test (in_turn n f)) ≡ some x
  first_in_turn zero f k hk h e = absurd (omega arith)
  first_in_turn (suc n) f zero hk h e = first_of_first (f 0) (in_turn n (λ k. f (suc k))) e
  first_in_turn (suc n) f (suc k) hk h e =
      ap head? (first_of_second (f 0) (in_turn n (λ k. f (suc k))) (h 0 (omega arith)))
      ∙ first_in_turn n (λ k. f (suc k)) k (omega arith) (λ j hj. h (suc j) (omega arith)) e

-- ---- of the places of one component and direction

module _ (c : Component) (d : Direction) (across along : ℕ) (test : Place → Bool) where
  abbrev at : ℕ → ℕ → Place
  at e l = record { component = c; direction = d; edge = e; line = l }

  -- the places of edge k, from its first segment on
  abbrev of_edge : ℕ → List Place
  of_edge k = in_turn (segments_along along) (λ l. at (8 * (k + 1)) (4 * l) ∷ [])

  on_grid : (k j : ℕ) → k < edges_in across → j < segments_along along → OnGrid across along (8 * (k + 1)) (4 * j)
  on_grid k j hk hj = omega arith

  alone : (s : Place) → test s ≡ false → keep test (s ∷ []) ≡ []
  alone s e = rw e

  edge_closed : (k : ℕ) → k < edges_in across → ((j : ℕ) → j < segments_along along → test (at (8 * (k + 1)) (4 * j))
      ≡ false)
      → keep test (of_edge k) ≡ []
  edge_closed k hk h = none_in_turn test (segments_along along) _ (λ j hj. alone _ (h j hj))

  pub none_open : ((e l : ℕ) → OnGrid across along e l → test (at e l) ≡ false)
      → keep test (places_across c d across along) ≡ []
  unfolding places_across
  none_open h =
      none_in_turn test (edges_in across) of_edge (λ k hk. edge_closed k hk (λ j hj. h _ _ (on_grid k j hk hj)))

  pub first_open : (e l : ℕ) → OnGrid across along e l → test (at e l) ≡ true
      → ((e' l' : ℕ) → OnGrid across along e' l' → Earlier e' l' e l → test (at e' l') ≡ false)
      → head? (keep test (places_across c d across along)) ≡ some (at e l)
  unfolding places_across
  first_open e l grid here before =
      let k : ℕ = e / 8 - 1 in
      let hk : k < edges_in across = omega arith in
      let there : at (8 * (k + 1)) (4 * (l / 4)) ≡ at e l = ap₂ at (omega arith) (omega arith) in
      first_in_turn test (edges_in across) of_edge k hk
      (λ i hi. edge_closed i (omega arith) (λ j hj. before _ _ (on_grid i j (omega arith) hj) (inl (omega arith))))
      (first_in_turn test (segments_along along) _ (l / 4) (omega arith)
      (λ j hj.
      alone _ (before _ _ (on_grid k j hk (omega arith)) (inr (omega arith, omega arith))))
      (ap (λ (s : Place). head? (keep test (s ∷ []))) there ∙ rw here))
