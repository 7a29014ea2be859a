-- Two pictures that differ in their cell and slice lists alone have the same finished planes where their segments are
-- filtered alike and the same samples are suppressed; and the same outputs where they are answered alike besides. Where
-- they differ in their cells alone it is enough that the filter does not tell the cells apart.
use Prim.Native.Nat.{ℕ}
use mathlib.Core.Path.{◌≡◌, refl, ap, sym, ◌∙◌}
use mathlib.Core.Bool.{Bool, true, false, cond}
use mathlib.Core.List.{List}
use mathlib.Core.Option.{Option}
use borrow.Author.Tests.{eqb-true}
use lib.Dec.{eqb}
use Rattle.filter.specs.Finished.{pass_of, restored, finished_plane, finished, outputs}
use Rattle.filter.specs.Kernel.{Filter, kernel}
use Rattle.filter.specs.Pass.{pass}
use Rattle.filter.specs.Segment.{
  Direction,
  vertical,
  horizontal,
  edge_flag,
  bs_of,
  slices_open,
  gate,
  luma_filter,
  chroma_filter,
  between,
  Position,
  segment_at,
  segment,
}
use Rattle.picture.specs.Causes.{verdict}
use Rattle.picture.specs.Cell.{suppressed, cell_at, cell_beneath}
use Rattle.picture.specs.declared.Cell.{Cell}
use Rattle.picture.specs.Ledger.{Verdict}
use Rattle.picture.specs.Picture.{Picture, Planes, Settings, with_lists, plane_width, plane_height, original}
use Rattle.picture.specs.Plane.{Plane, table, transposed}
use Rattle.picture.specs.Scale.{Component, Y, Cb, Cr}
use Rattle.picture.specs.Tile.{same_tile}

-- whether a component's sample is suppressed
abbrev pub mark : Picture → Component → ℕ → ℕ → Bool
mark p c x y = suppressed p.settings.pcm_loop_filter_disabled (cell_beneath p c x y)

-- a component's finished samples, for segments that are filtered and samples that are suppressed in any way
finished_by : Picture → Component → (Direction → ℕ → ℕ → Option Filter) → (ℕ → ℕ → Bool) → Plane
finished_by p c by kept =
    again
    (transposed
    (pass kernel (plane_height p c) (by horizontal)
    (transposed (again (pass kernel (plane_width p c) (by vertical) (original p c))))))
  where
    again : Plane → Plane
    again P x y = cond (kept x y) (original p c x y) (P x y)

finished_by_lem : (p : Picture) (c : Component) → finished_plane p c ≡ finished_by p c (segment p c) (mark p c)
unfolding finished_by finished_plane pass_of restored
finished_by_lem p c = refl

module _ (p : Picture) (cells slices cells' slices' : List ℕ) where
  abbrev one : Picture
  one = with_lists cells slices p

  abbrev other : Picture
  other = with_lists cells' slices' p

  -- nothing but these looks at the two lists
  lists_unseen : (c : Component) (by : Direction → ℕ → ℕ → Option Filter) (kept : ℕ → ℕ → Bool)
      → finished_by one c by kept ≡ finished_by other c by kept
  unfolding finished_by
  lists_unseen c by kept = refl

  abbrev pub Alike : Type 0
  Alike = (c : Component) (d : Direction) (a b : Position)
      → segment_at one c d a b ≡ segment_at other c d a b

  abbrev pub SameMarks : Type 0
  SameMarks = (c : Component) (x y : ℕ) → mark one c x y ≡ mark other c x y

  module _ (alike : Alike) (marked : SameMarks) where
    plane_alike : (c : Component) → finished_plane one c ≡ finished_plane other c
    plane_alike c =
        finished_by_lem one c
        ∙ (λ i. finished_by one c (λ d e line. at d e line i) (λ x y. marked c x y i))
        ∙ lists_unseen c (segment other c) (mark other c)
        ∙ sym (finished_by_lem other c)
      where
        at : (d : Direction) (e line : ℕ) → segment one c d e line ≡ segment other c d e line
        at d e line = alike c d _ _

    list_alike : (c : Component)
        → table (plane_width p c) (plane_height p c) (finished_plane one c)
        ≡ table (plane_width p c) (plane_height p c) (finished_plane other c)
    list_alike c = ap (table (plane_width p c) (plane_height p c)) (plane_alike c)

    pub finished_alike : finished one ≡ finished other
    unfolding finished
    finished_alike = λ i. record { y = list_alike Y i; cb = list_alike Cb i; cr = list_alike Cr i }

-- ---- cells that the filter does not tell apart

-- a strength counts only where its edge is there
pub record CellsAlike (a b : Cell) : Type 0 where
  pub qp : a.qp ≡ b.qp
  pub slice : a.slice ≡ b.slice
  pub edge : (d : Direction) → edge_flag d a ≡ edge_flag d b
  pub strength : (d : Direction) → edge_flag d a ≡ true → bs_of d a ≡ bs_of d b
  pub suppressed_same : (pcm : Bool) → suppressed pcm a ≡ suppressed pcm b

module _ (t : Settings) (slices : List ℕ) (d : Direction) {p q p' q' : Cell} (tile : Bool)
    (P : CellsAlike p p') (Q : CellsAlike q q') where
  at_edge : (c : Component) → edge_flag d q ≡ true
      → between t slices c d p q tile ≡ between t slices c d p' q' tile
  unfolding between gate slices_open luma_filter chroma_filter
  at_edge Y e = rw (Q.strength d e, ← Q.edge d, P.qp, Q.qp, P.slice, Q.slice) refl
  at_edge Cb e = rw (Q.strength d e, ← Q.edge d, P.qp, Q.qp, P.slice, Q.slice) refl
  at_edge Cr e = rw (Q.strength d e, ← Q.edge d, P.qp, Q.qp, P.slice, Q.slice) refl

  elsewhere : (c : Component) → edge_flag d q ≡ false
      → between t slices c d p q tile ≡ between t slices c d p' q' tile
  unfolding between gate
  elsewhere c e = rw (← Q.edge d, e) refl

  between_alike : (c : Component) → between t slices c d p q tile ≡ between t slices c d p' q' tile
  between_alike c = go (edge_flag d q) refl
    where
      go : (e : Bool) → edge_flag d q ≡ e → between t slices c d p q tile ≡ between t slices c d p' q' tile
      go true e = at_edge c e
      go false e = elsewhere c e

module _ (p : Picture) (cells' : List ℕ) (same : (n : ℕ) → CellsAlike (cell_at p.cells n) (cell_at cells' n)) where
  segments_alike : Alike p p.cells p.slices cells' p.slices
  unfolding segment_at same_tile
  segments_alike c d a b =
      between_alike p.settings p.slices d (same_tile p a.x a.y b.x b.y) (same _) (same _) c

  pub cells_alike : finished p ≡ finished (with_lists cells' p.slices p)
  cells_alike =
      finished_alike p p.cells p.slices cells' p.slices segments_alike (λ c x y. (same _).suppressed_same _)

-- ---- what is left in the outputs

-- two choices are the same where they part only in what is chosen
chosen : {A : Type 0} (t : Bool) (a b other : A) → (t ≡ true → a ≡ b) → cond t a other ≡ cond t b other
chosen true a b other same = same refl
chosen false a b other same = refl

pub outputs_alike : (p q : Picture) (lent : Planes) → verdict p lent ≡ verdict q lent
    → ((verdict p lent).number ≡ 0 → finished p ≡ finished q) → outputs p lent ≡ outputs q lent
unfolding outputs
outputs_alike p q lent answered same =
    chosen (eqb (verdict p lent).number 0) (finished p) (finished q) lent (λ e. same (eqb-true _ _ e))
    ∙ ap (λ (v : Verdict). cond (eqb v.number 0) (finished q) lent) answered
