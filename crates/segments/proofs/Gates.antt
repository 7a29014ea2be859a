-- The gate of a segment whose edge flag is set, test by test, and the filter of one that is open.
use Prim.Native.Nat.{ℕ, ◌≤◌, ◌<◌}
use mathlib.Core.Path.{◌≡◌, refl, sym, ◌∙◌, ap, ap₂, subst}
use mathlib.Core.Bool.{Bool, true, false, cond, not, ◌&&◌}
use mathlib.Core.List.{List}
use mathlib.Core.Option.{none, some}
use native.Mathlib.Omega.{arith}
use borrow.Author.Tests.{le-leb, lt-leb, not-true, not-false}
use lib.Dec.{leb, ltb}
use Rattle.std.specs.Prelude.{Some, None}
use Rattle.std.specs.Bool.{then_some}
use Rattle.ints.specs.Int.{◌⊖◌}
use Rattle.filter.specs.declared.ChromaFilter.{ChromaFilter}
use Rattle.filter.specs.declared.Component.{Component}
use Rattle.filter.specs.declared.LumaFilter.{LumaFilter}
use Rattle.filter.specs.Answer.{SegmentInRange, Sound, chroma_of, luma_of, slice_gate}
use Rattle.filter.specs.Kernel.{luma, chroma}
use Rattle.filter.specs.Segment.{slices_open, luma_filter, chroma_filter}
use Rattle.picture.specs.declared.Cell.{Cell}
use Rattle.picture.specs.declared.Slice.{Slice}
use Rattle.picture.specs.Slice.{slice_at}
use Rattle.segments.specs.declared.Sides.{Sides}
use Rattle.segments.specs.declared.SegmentFilter.TheVariants as Answer
use Rattle.segments.specs.Between.{filter_for, least_for, positive, between_for, option_of}

-- ---- the filter

-- the answer's test is the definition's
pub luma_positive : (largest β tc : ℕ)
    → option_of largest (then_some (ltb 0 tc) (Answer.Luma β tc)) ≡ positive (luma β tc largest)
unfolding positive
luma_positive largest β tc = go (ltb 0 tc)
  where
    go : (t : Bool)
        → option_of largest (then_some t (Answer.Luma β tc)) ≡ cond t (some (luma β tc largest)) none
    go true = refl
    go false = refl

pub chroma_positive : (largest tc : ℕ)
    → option_of largest (then_some (ltb 0 tc) (Answer.Chroma tc)) ≡ positive (chroma tc largest)
unfolding positive
chroma_positive largest tc = go (ltb 0 tc)
  where
    go : (t : Bool) → option_of largest (then_some t (Answer.Chroma tc)) ≡ cond t (some (chroma tc largest)) none
    go true = refl
    go false = refl

module _ (k : Component) (p q : Cell) (s : Slice) (bS : ℕ) where
  either_for : (t : Bool) → k.luma ≡ t
      → cond t (luma_filter k.depth p q s bS) (chroma_filter k.format k.depth (k.offset ⊖ 12) p q s)
      ≡ filter_for k p q s bS
  either_for t e =
      ap
      (λ (u : Bool).
      cond u (luma_filter k.depth p q s bS) (chroma_filter k.format k.depth (k.offset ⊖ 12) p q s))
      (sym e)

  pub luma_for : k.luma ≡ true → luma_filter k.depth p q s bS ≡ filter_for k p q s bS
  luma_for e = either_for true e

  pub chroma_for : k.luma ≡ false
      → chroma_filter k.format k.depth (k.offset ⊖ 12) p q s ≡ filter_for k p q s bS
  chroma_for e = either_for false e

  -- its largest sample is the component's
  module _ (sound : Sound k) where
    pub luma_at_largest : (f : LumaFilter) → luma_of f ≡ luma_filter k.depth p q s bS
        → luma f.beta f.tc k.largest ≡ luma_filter k.depth p q s bS
    unfolding luma_filter
    luma_at_largest f e = cc sound.largest_is

    pub chroma_at_largest : (f : ChromaFilter)
        → chroma_of f ≡ chroma_filter k.format k.depth (k.offset ⊖ 12) p q s
        → chroma f.tc k.largest ≡ chroma_filter k.format k.depth (k.offset ⊖ 12) p q s
    unfolding chroma_filter
    chroma_at_largest f e = cc sound.largest_is

-- ---- the gate

-- the least bS that is filtered is not 0
pub least_some : (k : Component) → 1 ≤ least_for k
least_some k = go k.luma
  where
    go : (t : Bool) → 1 ≤ cond t 1 2
    go true = omega arith
    go false = omega arith

told : (S s : Slice) (t : Bool) → cond t (Some S) None ≡ Some s → (t ≡ true) × (S ≡ s)
told S s true e = (refl, cc)
told S s false e = absurd (let z : ◌≡◌ {A = ℕ} 0 1 = cc in omega arith)

-- the slice of an open gate is Q's, so what is in range by that one is so by this
pub open_in_range : (slices : List ℕ) (p q : Cell) (bS : ℕ) (s : Slice) → slice_gate slices p q ≡ Some s
    → SegmentInRange p q (slice_at slices q.slice) bS → SegmentInRange p q s bS
unfolding slice_gate
open_in_range slices p q bS s e h =
    subst (λ (t : Slice). SegmentInRange p q t bS) (told _ s (slices_open p q (slice_at slices q.slice)) e).1 h

module _ (k : Component) (slices : List ℕ) (v : Sides) (bS : ℕ) where
  abbrev S : Slice
  S = slice_at slices v.q.slice

  -- the tests in the definition's order
  by_tests : (b c d : Bool) → leb (least_for k) bS ≡ b → v.same ≡ c → slices_open v.p v.q S ≡ d
      → cond (b && (c && d)) (positive (filter_for k v.p v.q S bS)) none ≡ between_for k slices v bS
  unfolding between_for
  by_tests b c d eb ec ed =
      sym
      (ap (λ (t : Bool). cond t (positive (filter_for k v.p v.q S bS)) none)
      (ap₂ ◌&&◌ eb (ap₂ ◌&&◌ ec ed)))

  pub closed_bs : bS < least_for k → none ≡ between_for k slices v bS
  closed_bs h = by_tests false v.same (slices_open v.p v.q S) (lt-leb _ _ h) refl refl

  module _ (strong : least_for k ≤ bS) where
    pub closed_tile : not v.same ≡ true → none ≡ between_for k slices v bS
    closed_tile n = by_tests true false (slices_open v.p v.q S) (le-leb _ _ strong) (not-true v.same n) refl

    module _ (one : not v.same ≡ false) where
      shut : (t : Bool) → cond t (Some S) None ≡ None → t ≡ false
      shut true e = absurd (let z : ◌≡◌ {A = ℕ} 0 1 = cc in omega arith)
      shut false e = refl

      pub closed_slices : slice_gate slices v.p v.q ≡ None → none ≡ between_for k slices v bS
      unfolding slice_gate
      closed_slices e =
          by_tests true true false (le-leb _ _ strong) (not-false v.same one) (shut (slices_open v.p v.q S) e)

      pub opened : (s : Slice) → slice_gate slices v.p v.q ≡ Some s
          → positive (filter_for k v.p v.q s bS) ≡ between_for k slices v bS
      unfolding slice_gate
      opened s e =
          let z = told S s (slices_open v.p v.q S) e in
          ap (λ (t : Slice). positive (filter_for k v.p v.q t bS)) (sym z.1)
          ∙ by_tests true true true (le-leb _ _ strong) (not-false v.same one) z.0
