-- Document 02, C-18: "A negative average always gives 0, to be shown too": in every picture that passes its checks a
-- luma segment whose average QP is negative has a tC of 0, and so is not filtered.
use Prim.Native.Nat.{◌≤◌, ◌<◌}
use mathlib.Core.Path.{◌≡◌, refl}
use mathlib.Core.Bool.{Bool, true, false, cond, ◌&&◌}
use mathlib.Core.Option.{none, some}
use native.Mathlib.Nat.{mul_comm}
use native.Mathlib.Omega.{arith}
use borrow.Author.Tests.{le-ltb}
use lib.Dec.{ltb}
use lib.IntN.{pos}
use Rattle.ints.specs.Int.{lt}
use Rattle.ints.proofs.Bounds.{most_in}
use Rattle.filter.specs.Kernel.{Filter, tc_of}
use Rattle.filter.specs.Segment.{Direction, vertical, horizontal, bs_of, gate, luma_filter}
use Rattle.filter.specs.Segment.{Position, between, segment_at}
use Rattle.picture.specs.declared.Cell.{Cell}
use Rattle.picture.specs.declared.Slice.{Slice}
use Rattle.picture.specs.Accepted.{PictureOk}
use Rattle.picture.specs.Cell.{cell_count, cell_number, cell_of_sample, qp_of}
use Rattle.picture.specs.Picture.{Picture}
use Rattle.picture.specs.Scale.{Y, cell_of}
use Rattle.picture.specs.Slice.{slice_at}
use Rattle.picture.specs.Tile.{same_tile}
use Rattle.picture.proofs.Index.{within_rows}
use Rattle.picture.proofs.InRange.{cell_slice, cell_bsv, cell_bsh, slice_tc}
use Rattle.thresholds.specs.Luma.{average_qp}
use Rattle.thresholds.proofs.LumaTable.{negative_gives_0}

-- a filter whose tC is 0 is none, whatever the gate says
closed : (g : Bool) (f : Filter) → tc_of f ≡ 0 → cond (g && ltb 0 (tc_of f)) (some f) none ≡ none
closed true f e = simp (le-ltb 0 (tc_of f) (omega arith))
closed false f e = refl

-- P and Q are the cells of two luma positions a and b, of which b lies in the picture
module _ (p : Picture) (ok : PictureOk p) (d : Direction) (a b : Position) (hx : b.x < p.width)
    (hy : b.y < p.height) where
  abbrev P : Cell
  P = cell_of_sample p a.x a.y

  abbrev Q : Cell
  Q = cell_of_sample p b.x b.y

  abbrev slice_q : Slice
  slice_q = slice_at p.slices Q.slice

  inside : cell_number (cell_of p.width) (cell_of b.x) (cell_of b.y) < cell_count p
  inside =
      let within =
      within_rows (cell_of p.width) (cell_of p.height) (cell_of b.y) (cell_of b.x)
      (omega (arith, ok.height.eights)) (omega (arith, ok.width.eights)) in
      omega (arith, within, mul_comm (cell_of p.height) (cell_of p.width))

  strength : (d : Direction) → bs_of d Q ≤ 2
  strength vertical = cell_bsv p ok _ inside
  strength horizontal = cell_bsh p ok _ inside

  module _ (negative : lt (average_qp (qp_of P) (qp_of Q)) (pos 0) ≡ true) where
    pub negative_has_tc_0 : tc_of (luma_filter p.settings.luma_depth P Q slice_q (bs_of d Q)) ≡ 0
    unfolding luma_filter
    negative_has_tc_0 =
        negative_gives_0 p.settings.luma_depth (bs_of d Q) _ _ negative (strength d)
        (most_in 6 _ 6 (slice_tc p ok _ (cell_slice p ok _ inside)))

    pub negative_not_filtered : segment_at p Y d a b ≡ none
    unfolding segment_at between
    negative_not_filtered =
        closed (gate Y d P Q slice_q (same_tile p a.x a.y b.x b.y))
        (luma_filter p.settings.luma_depth P Q slice_q (bs_of d Q)) negative_has_tc_0
