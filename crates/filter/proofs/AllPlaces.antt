-- The list of places is that of the pass: it has each edge and first line that a pass asks a segment for, and no
-- other; and how many there are is worked out from the size alone.
use Prim.Native.Nat.{ℕ, zero, suc, ◌+◌, ◌-◌, ◌*◌, ◌/◌, ◌%◌, ◌≤◌, ◌<◌}
use mathlib.Core.Path.{◌≡◌, refl, sym, ap, ap₂, ◌∙◌}
use mathlib.Core.List.Memᴰ
use mathlib.Core.List.{
  List,
  [],
  ◌∷◌,
  ◌++◌,
  Memᴰ,
}
use mathlib.Core.Logic.{⊎_elim}
use native.Mathlib.Nat.{add-mul}
use native.Mathlib.Omega.{arith}
use lib.ListN.{length, length-append}
use Rattle.filter.specs.Pass.{edge_of, first_line}
use Rattle.filter.specs.Places.{Place, in_turn, edges_in, segments_along, places_across}
use Rattle.filter.specs.Segment.{Direction}
use Rattle.picture.specs.Scale.{Component}

-- ---- lists in turn

length_in_turn : {A : Type 0} (m n : ℕ) (f : ℕ → List A) → ((k : ℕ) → length (f k) ≡ m) → length (in_turn n f) ≡ n * m
length_in_turn m zero f h = omega arith
length_in_turn m (suc n) f h =
    let more : length (in_turn n (λ k. f (suc k))) ≡ n * m = length_in_turn m n (λ k. f (suc k)) (λ k. h (suc k)) in
    let one : (n + 1) * m ≡ n * m + 1 * m = add-mul n 1 m in
    length-append (f 0) (in_turn n (λ k. f (suc k))) ∙ omega (arith, h 0)

in_turn_lem : {A : Type 0} {a : A} (n : ℕ) (f : ℕ → List A) (k : ℕ) → k < n → Memᴰ a (f k) → Memᴰ a (in_turn n f)
in_turn_lem zero f k h m = absurd (omega arith)
in_turn_lem (suc n) f zero h m = Memᴰ.append_left (in_turn n (λ k. f (suc k))) m
in_turn_lem (suc n) f (suc k) h m = Memᴰ.append_right (f 0) (in_turn_lem n (λ k. f (suc k)) k (omega arith) m)

record Turn {A : Type 0} (a : A) (n : ℕ) (f : ℕ → List A) : Type 0 where
  k : ℕ
  below : k < n
  there : Memᴰ a (f k)

later : {A : Type 0} {a : A} (n : ℕ) (f : ℕ → List A) → Turn a n (λ k. f (suc k)) → Turn a (suc n) f
later n f t = record { k = suc t.k; below = omega arith; there = t.there }

of_turn : {A : Type 0} {a : A} (n : ℕ) (f : ℕ → List A) → Memᴰ a (in_turn n f) → Turn a n f
of_turn zero f m = absurd (Memᴰ.not-nil m)
of_turn (suc n) f m =
    ⊎_elim (λ here. record { k = 0; below = omega arith; there = here })
    (λ more. later n f (of_turn n (λ k. f (suc k)) more))
    (Memᴰ.append_cases (f 0) m)

-- ---- the places

module _ (c : Component) (d : Direction) (across along : ℕ) where
  pub places_count : length (places_across c d across along) ≡ edges_in across * segments_along along
  unfolding places_across
  places_count =
      length_in_turn (segments_along along) (edges_in across) _
      (λ e. length_in_turn 1 (segments_along along) _ (λ l. refl) ∙ omega arith)

  -- a place of the list has an edge at a multiple of 8, never at 0, and a first line at a multiple of 4, in the plane
  pub record Segmented (p : Place) : Type 0 where
    pub component : p.component ≡ c
    pub direction : p.direction ≡ d
    pub eights : p.edge % 8 ≡ 0
    pub some : 0 < p.edge
    pub edge_within : p.edge < across
    pub fours : p.line % 4 ≡ 0
    pub line_within : p.line < along

  pub places_are : (p : Place) → Memᴰ p (places_across c d across along) → Segmented p
  unfolding places_across
  places_are p m =
      let edge = of_turn (edges_in across) _ m in
      let line = of_turn (segments_along along) _ edge.there in
      let is = Memᴰ.eq_of_singleton line.there in
      let e : p.edge ≡ 8 * (edge.k + 1) = ap (λ (q : Place). q.edge) is in
      let l : p.line ≡ 4 * line.k = ap (λ (q : Place). q.line) is in
      record {
        component = ap (λ (q : Place). q.component) is;
        direction = ap (λ (q : Place). q.direction) is;
        eights = omega (arith, e);
        some = omega (arith, e);
        edge_within = omega (arith, e, edge.below);
        fours = omega (arith, l);
        line_within = omega (arith, l, line.below);
      }

  -- the edge and the first line of every sample that a pass can move are a place of the list
  pub places_all : (x y : ℕ) → 0 < edge_of x → edge_of x < across → y < along
      → Memᴰ (record { component = c; direction = d; edge = edge_of x; line = first_line y })
      (places_across c d across along)
  unfolding places_across
  places_all x y some edge line =
      let e : edge_of x ≡ 8 * (edge_of x / 8 - 1 + 1) = omega arith in
      in_turn_lem (edges_in across) _ (edge_of x / 8 - 1) (omega arith)
      (in_turn_lem (segments_along along) _ (y / 4) (omega arith)
      (Memᴰ.head (λ i. record { component = c; direction = d; edge = e i; line = first_line y })))
