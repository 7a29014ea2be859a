-- What the records say of one segment, one cell and one band: the steps of the code, put together.
use Prim.Native.Nat.{ℕ, ◌+◌, ◌-◌, ◌%◌, ◌≤◌, ◌<◌, min}
use mathlib.Core.Path.{◌≡◌, refl, ◌∙◌, ap}
use mathlib.Core.Bool.{Bool, true, false, cond, not, ◌&&◌, ◌||◌}
use mathlib.Core.List.{List}
use borrow.Author.Tests.{le-leb, lt-leb}
use lib.Dec.{eqb}
use lib.IntN.{ℤ, pos}
use Rattle.std.specs.Prelude.{Some, None}
use Rattle.std.specs.Bool.{then_some}
use Rattle.ints.specs.Int.{◌⊖◌}
use Rattle.ints.specs.Sample.{largest_at}
use Rattle.filter.specs.Answer.{slice_gate}
use Rattle.filter.specs.Bands.{horizontal_band_end}
use Rattle.filter.specs.Kernel.{luma, chroma}
use Rattle.filter.specs.Segment.{slices_open, luma_filter, chroma_filter}
use Rattle.picture.specs.declared.Cell.{Cell}
use Rattle.picture.specs.declared.Slice.{Slice}
use Rattle.picture.specs.Cell.{qp_of}
use Rattle.picture.specs.Slice.{slice_at}
use Rattle.thresholds.specs.Chroma.{chroma_tc}
use Rattle.thresholds.specs.Luma.{average_qp, luma_beta, luma_tc}

-- ---- bands

pub band_last : (total h r : ℕ) → total ≤ r + h → total ≡ horizontal_band_end total h r
unfolding horizontal_band_end
band_last total h r past = simp (le-leb _ _ past)

pub band_near : (total h r e : ℕ) → r + h < total → (r + h) % 8 ≤ 4 → e ≡ min (r + h + 4 - (r + h) % 8) total
    → e ≡ horizontal_band_end total h r
unfolding horizontal_band_end
band_near total h r e inside low is = simp (lt-leb _ _ inside, le-leb _ _ low) is

pub band_far : (total h r e : ℕ) → r + h < total → 4 < (r + h) % 8 → e ≡ min (r + h + 12 - (r + h) % 8) total
    → e ≡ horizontal_band_end total h r
unfolding horizontal_band_end
band_far total h r e inside high is = simp (lt-leb _ _ inside, lt-leb _ _ high) is

-- ---- the gate of the slices, by Q's slice s

pub gate_is : (slices : List ℕ) (p q : Cell) (s : Slice) → s ≡ slice_at slices q.slice
    → then_some ((s.across || eqb p.slice q.slice) && not s.disabled) s ≡ slice_gate slices p q
unfolding slice_gate slices_open
gate_is slices p q s is =
    given ((s.across || eqb p.slice q.slice) && not s.disabled) s
    ∙ ap (λ (t : Slice). cond (slices_open p q t) (Some t) None) is
  where
    given : (b : Bool) (t : Slice) → then_some b t ≡ cond b (Some t) None
    given true t = refl
    given false t = refl

-- ---- thresholds, by the average QP

module _ (depth : ℕ) (p q : Cell) (s : Slice) (a : ℕ) {largest : ℕ} (ea : a ⊖ 64 ≡ average_qp (qp_of p) (qp_of q))
    (el : largest ≡ largest_at depth) where
  pub luma_made : (bS : ℕ) {β tc : ℕ} → β ≡ luma_beta depth (a ⊖ 64) (s.beta ⊖ 6)
      → tc ≡ luma_tc depth (a ⊖ 64) (pos bS) (s.tc ⊖ 6) → luma β tc largest ≡ luma_filter depth p q s bS
  unfolding luma_filter
  luma_made bS eb et =
      let β-is = eb ∙ ap (λ (z : ℤ). luma_beta depth z (s.beta ⊖ 6)) ea in
      let tc_is = et ∙ ap (λ (z : ℤ). luma_tc depth z (pos bS) (s.tc ⊖ 6)) ea in
      λ i. luma (β-is i) (tc_is i) (el i)

  pub chroma_made : (format : ℕ) (offset : ℤ) {tc : ℕ} → tc ≡ chroma_tc format depth (a ⊖ 64) offset (s.tc ⊖ 6)
      → chroma tc largest ≡ chroma_filter format depth offset p q s
  unfolding chroma_filter
  chroma_made format offset et =
      let tc_is = et ∙ ap (λ (z : ℤ). chroma_tc format depth z offset (s.tc ⊖ 6)) ea in
      λ i. chroma (tc_is i) (el i)
