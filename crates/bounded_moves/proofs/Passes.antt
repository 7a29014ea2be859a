-- How far one pass moves a sample: by no more than the filter of the one segment whose window it lies in.
use Prim.Native.Nat.{ℕ, ◌+◌, ◌-◌, ◌≤◌, ◌<◌}
use mathlib.Core.Path.{◌≡◌, ap₂, subst}
use mathlib.Core.Bool.{◌&&◌}
use mathlib.Core.Option.{Option, none, some}
use native.Mathlib.Omega.{arith}
use lib.Dec.{ltb}
use Rattle.filter.specs.Kernel.{Filter, kernel}
use Rattle.filter.specs.Pass.{edge_of, first_line, window, applied, pass}
use Rattle.ints.specs.Sample.{distance}
use Rattle.lines.proofs.Within.{of_chosen}
use Rattle.picture.specs.Plane.{Plane}
use Rattle.bounded_moves.specs.Segments.{InRange}
use Rattle.bounded_moves.proofs.Segments.{most_of, largest_of, window_most, window_range}

-- a sample is moved by no more than `most`, and not out of its range
pub record Close (most largest before after : ℕ) : Type 0 where
  pub most_is : distance before after ≤ most
  pub range_is : after ≤ largest

pub unmoved : {most largest v : ℕ} → v ≤ largest → Close most largest v v
unmoved h = record { most_is = omega arith; range_is = h }

-- what is known of a segment: it is closed, or its filter goes no farther than `most` and has this largest sample
abbrev pub Bounded : ℕ → ℕ → Option Filter → Type 0
Bounded most largest none = Unit {0}
Bounded most largest (some f) = (most_of f ≤ most) × (largest_of f ≡ largest)

-- sample i of line j of a window, by an open segment or a closed one
at_segment : (most largest : ℕ) (o : Option Filter) → Bounded most largest o → (W : Plane) → InRange largest W
    → (i j : ℕ) → i < 8 → Close most largest (W i j) (applied kernel o W i j (W i j))
at_segment most largest none b W ok i j h = unmoved (ok i j)
at_segment most largest (some f) b W ok i j h =
    let same : InRange (largest_of f) W = rw b.1 ok in
    record {
      most_is = omega (arith, window_most f W same i j h, b.0);
      range_is = omega (arith, window_range f W same i j, b.1);
    }

-- a sample in the window that it lies in
in_window : (P : Plane) (x y : ℕ)
    → window P (edge_of x) (first_line y) (x + 4 - edge_of x) (y - first_line y) ≡ P x y
unfolding window
in_window P x y = ap₂ P (omega arith) (omega arith)

window_within : (P : Plane) {largest : ℕ} → InRange largest P → (e l : ℕ) → InRange largest (window P e l)
unfolding window
window_within P ok e l i j = ok _ _

pub pass_close : (most largest width : ℕ) (segment : ℕ → ℕ → Option Filter)
    → ((e l : ℕ) → Bounded most largest (segment e l)) → (P : Plane) → InRange largest P
    → (x y : ℕ) → Close most largest (P x y) (pass kernel width segment P x y)
unfolding pass
pass_close most largest width segment bounded P ok x y =
    let e : ℕ = edge_of x in
    let l : ℕ = first_line y in
    of_chosen (Close most largest (P x y)) (ltb 0 e && ltb e width)
    (subst (λ (v : ℕ). Close most largest v (applied kernel (segment e l) (window P e l) (x + 4 - e) (y - l) v))
    (in_window P x y)
    (at_segment most largest (segment e l) (bounded e l) (window P e l) (window_within P ok e l) (x + 4 - e) (y - l)
    (omega arith)))
    (unmoved (ok x y))
