-- The sides of a segment put together from their lookups, and the segment from its sides, in either direction.
use Prim.Native.Nat.{ℕ}
use mathlib.Core.Path.{◌≡◌, sym, ap, ◌∙◌}
use mathlib.Core.Bool.{Bool, true, false, cond}
use mathlib.Core.List.{List}
use mathlib.Core.Option.{Option, none}
use lib.Dec.{eqb}
use Rattle.filter.specs.declared.Component.{Component}
use Rattle.filter.specs.Kernel.{Filter}
use Rattle.filter.specs.Segment.{Direction, edge_flag, bs_of, Position, position_p}
use Rattle.picture.specs.declared.Cell.{Cell}
use Rattle.picture.specs.Scale.{ctb_of}
use Rattle.picture.specs.Tile.{tile_of}
use Rattle.segments.specs.declared.Frame.{Frame}
use Rattle.segments.specs.declared.Sides.{Sides}
use Rattle.segments.specs.Between.{between_for}
use Rattle.segments.specs.Sides.{cell_in, cell_for, crossing, sides_at, position_for, segment_for}

-- ---- the sides

pub sides_made : (d : Direction) (cells starts : List ℕ) (log2 w : ℕ) (p q : Position) {P Q : Cell} {t : Bool}
    → p ≡ position_p d q → P ≡ cell_in cells w p → Q ≡ cell_in cells w q
    → t ≡ eqb (tile_of starts (ctb_of log2 (crossing d p))) (tile_of starts (ctb_of log2 (crossing d q)))
    → record { p = P; q = Q; same = t } ≡ sides_at d cells starts log2 w q
unfolding sides_at
sides_made d cells starts log2 w p q e ep eq et =
    let before = ep ∙ ap (cell_in cells w) e in
    let tiles =
    et
    ∙ ap
    (λ (a : Position). eqb (tile_of starts (ctb_of log2 (crossing d a))) (tile_of starts (ctb_of log2 (crossing d q))))
    e in
    λ i. record { p = before i; q = eq i; same = tiles i }

-- ---- the segment, by the flags of its Q cell and by its sides

module _ (d : Direction) (k : Component) (f : Frame) (cells slices starts : List ℕ) (e l : ℕ) where
  abbrev S : Sides
  S = sides_at d cells starts f.log2_ctb f.cell_columns.0 (position_for k d e l)

  -- a segment whose flag is 0 is closed
  pub segment_none : edge_flag d (cell_for d k f cells e l) ≡ false
      → none ≡ segment_for d k f cells slices starts e l
  unfolding segment_for sides_at
  segment_none off = sym (ap (λ (t : Bool). cond t (between_for k slices S (bs_of d S.q)) none) off)

  -- of one whose flag is 1 the sides decide
  pub segment_made : (v : Sides) (bS : ℕ) {r : Option Filter} → edge_flag d (cell_for d k f cells e l) ≡ true
      → v ≡ S → bS ≡ bs_of d v.q → r ≡ between_for k slices v bS → r ≡ segment_for d k f cells slices starts e l
  unfolding segment_for sides_at
  segment_made v bS on ev eb er =
      er
      ∙ ap (between_for k slices v) eb
      ∙ ap (λ (s : Sides). between_for k slices s (bs_of d s.q)) ev
      ∙ sym (ap (λ (t : Bool). cond t (between_for k slices S (bs_of d S.q)) none) on)
