-- What the code is given at a segment is what the definition of the filter names there, for every component of a
-- picture.
use Prim.Native.Nat.{ℕ, ◌-◌}
use mathlib.Core.Path.{◌≡◌, refl, sym, ◌∙◌, ap, ap₂}
use mathlib.Core.Bool.{Bool, true, false, cond, ◌&&◌}
use mathlib.Core.List.{List}
use mathlib.Core.Option.{Option, none}
use borrow.Author.Tests.{eq-eqb}
use lib.Dec.{eqb, leb}
use lib.IntN.{ℤ}
use Rattle.filter.specs.Kernel.{Filter}
use Rattle.filter.specs.Segment.{
  Direction,
  vertical,
  horizontal,
  edge_flag,
  bs_of,
  least_bs,
  slices_open,
  gate,
  filter_of,
  chroma_filter,
  between,
  Position,
  position_p,
  position_q,
  segment_at,
  segment,
}
use Rattle.picture.specs.declared.Slice.{Slice}
use Rattle.picture.specs.Picture.{Picture, Settings}
use Rattle.picture.specs.Scale as Scale
use Rattle.picture.specs.Scale.{Y, Cb, Cr, cell_of, ctb_of}
use Rattle.picture.specs.Slice.{slice_at}
use Rattle.picture.specs.Tile.{tile_of, tile_column, tile_row, same_tile}
use Rattle.segments.specs.declared.Sides.{Sides}
use Rattle.segments.specs.Between.{filter_for, positive, between_for}
use Rattle.segments.specs.Pictures.{component_for, OffsetIs, frame_for}
use Rattle.segments.specs.Sides.{crossing, sides_at, position_for, flagged, segment_for}

-- one test after another
both : {A : Type 0} (a b : Bool) (x y : A) → cond (a && b) x y ≡ cond a (cond b x y) y
both true b x y = refl
both false b x y = refl

-- the component's filter, by its struct
filter_is : (t : Settings) (o : ℕ) (c : Scale.Component) → OffsetIs t o c
    → (s : Sides) (d : Direction) (slices : List ℕ)
    → filter_of t c s.p s.q (slice_at slices s.q.slice) (bs_of d s.q)
    ≡ filter_for (component_for t o c) s.p s.q (slice_at slices s.q.slice) (bs_of d s.q)
filter_is t o Y i s d slices = refl
filter_is t o Cb i s d slices =
    ap (λ (z : ℤ). chroma_filter t.format t.chroma_depth z s.p s.q (slice_at slices s.q.slice)) (sym i)
filter_is t o Cr i s d slices =
    ap (λ (z : ℤ). chroma_filter t.format t.chroma_depth z s.p s.q (slice_at slices s.q.slice)) (sym i)

least_is : (t : Settings) (o : ℕ) (c : Scale.Component) → least_bs c ≡ cond (component_for t o c).luma 1 2
least_is t o Y = refl
least_is t o Cb = refl
least_is t o Cr = refl

between_is : (t : Settings) (o : ℕ) (c : Scale.Component) → OffsetIs t o c
    → (slices : List ℕ) (d : Direction) (s : Sides)
    → between t slices c d s.p s.q s.same ≡ flagged d (component_for t o c) slices s
unfolding between gate between_for positive
between_is t o c i slices d s =
    let bS : ℕ = bs_of d s.q in
    let slice_q : Slice = slice_at slices s.q.slice in
    let allowed : Bool = s.same && slices_open s.p s.q slice_q in
    let by : ℕ → Filter → Option Filter =
    λ least filter. cond (edge_flag d s.q) (cond (leb least bS && allowed) (positive filter) none) none in
    both (edge_flag d s.q && (leb (least_bs c) bS && allowed)) _ _ _
    ∙ both (edge_flag d s.q) (leb (least_bs c) bS && allowed) _ _
    ∙ ap₂ by (least_is t o c) (filter_is t o c i s d slices)

-- ---- P, Q and their tiles

and_true : (a b : Bool) → b ≡ true → (a && b) ≡ a
and_true true b e = e
and_true false b e = refl

-- the tile starts of a direction
abbrev pub starts_of : Picture → Direction → List ℕ
starts_of p vertical = p.columns
starts_of p horizontal = p.rows

-- P and Q differ in the coordinate across the edge alone
same_is : (p : Picture) (d : Direction) (q : Position)
    → same_tile p (position_p d q).x (position_p d q).y q.x q.y
    ≡ eqb (tile_of (starts_of p d) (ctb_of p.settings.log2_ctb (crossing d (position_p d q))))
    (tile_of (starts_of p d) (ctb_of p.settings.log2_ctb (crossing d q)))
unfolding same_tile
same_is p vertical q =
    and_true (eqb (tile_column p (q.x - 1)) (tile_column p q.x)) _
    (eq-eqb (tile_row p q.y) (tile_row p q.y) refl)
same_is p horizontal q =
    ap (λ (t : Bool). t && eqb (tile_row p (q.y - 1)) (tile_row p q.y))
    (eq-eqb (tile_column p q.x) (tile_column p q.x) refl)

position_is : (t : Settings) (o : ℕ) (c : Scale.Component) (d : Direction) (e l : ℕ)
    → position_q t c d e l ≡ position_for (component_for t o c) d e l
position_is t o Y vertical e l = refl
position_is t o Y horizontal e l = refl
position_is t o Cb vertical e l = refl
position_is t o Cb horizontal e l = refl
position_is t o Cr vertical e l = refl
position_is t o Cr horizontal e l = refl

pub segment_is : (p : Picture) (o : ℕ) (c : Scale.Component) → OffsetIs p.settings o c → (d : Direction) (e l : ℕ)
    → segment p c d e l
    ≡ segment_for d (component_for p.settings o c) (frame_for p c) p.cells p.slices (starts_of p d) e l
unfolding segment_at segment_for sides_at
segment_is p o c i d e l =
    let t : Settings = p.settings in
    let sides : Position → Sides = λ q. sides_at d p.cells (starts_of p d) t.log2_ctb (cell_of p.width) q in
    let q : Position = position_q t c d e l in
    ap (between t p.slices c d (sides q).p (sides q).q) (same_is p d q)
    ∙ between_is t o c i p.slices d (sides q)
    ∙ ap (λ (a : Position). flagged d (component_for t o c) p.slices (sides a)) (position_is t o c d e l)
