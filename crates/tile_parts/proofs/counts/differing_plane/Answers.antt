-- `differing_plane` meets its contract. The loop's invariant: n samples of the first y rows differ.
-- Assumes nothing.
use Prim.Native.Nat.{◌≤◌}
use mathlib.Core.Path.{◌≡◌}
use native.Mathlib.Nat.{add-mul}
use native.Mathlib.Omega.{arith}
use borrow.Author.Rules.{rules}
use Rattle.picture.proofs.Index.{row_le}
use Rattle.tile_parts.specs.Parts.{part_of, row_differences}
use Rattle.tile_parts.proofs.Cropped.{own_row, out_row}
use Rattle.tile_parts.proofs.Counted.{cut_row, out_row_at, rows_read, rows_few, rows_more, rows_all, cut_small}
use Rattle.tile_parts.proofs.counts.differing_plane.Goals as goal
use Rattle.tile_parts.proofs.counts.differing_plane.Goals.{After-differing_row-n}

-- what was counted
counted : (c : After-differing_row-n) → let a = c.args in
    c.differing_row-n.result
    ≡ row_differences (cut_row a.cut.now a.out.now a.stride (part_of a.part) c.loop-y.y)
    (out_row_at a.cut.now a.out.now a.stride (part_of a.part) c.loop-y.y)
counted c =
    let a = c.args in
    rows_read a.cut.now a.out.now a.stride (part_of a.part) c.loop-y.y (omega arith) (omega arith)
    c.differing_row-n.ensures

few : (c : After-differing_row-n) → c.differing_row-n.result ≤ c.args.part.width
few c =
    let a = c.args in
    rows_few a.cut.now a.out.now a.stride (part_of a.part) c.loop-y.y (counted c)

pub slice_bounds-differing_row-end-in-loop-y : goal.slice_bounds-differing_row-end-in-loop-y
slice_bounds-differing_row-end-in-loop-y c =
    let own = own_row (part_of c.args.part) c.requires.cut_len c.loop-y-test.true in
    let out = out_row c.requires.room c.loop-y-test.true in
    search rules

pub overflow_add-n : goal.overflow_add-n
overflow_add-n c =
    let a = c.args in
    let inside = own_row (part_of a.part) c.requires.cut_len c.loop-y-test.true in
    let small = cut_small a.cut.now c.requires.room c.requires.cut_len in
    omega (arith, few (goal.at.overflow_add-n c).After-differing_row-n)

pub loop-y-preserved : goal.loop-y-preserved
loop-y-preserved c =
    let a = c.args in
    let at = (goal.at.loop-y-preserved c).After-differing_row-n in
    let inside = own_row (part_of a.part) c.requires.cut_len c.loop-y-test.true in (
      omega (arith, few at, add-mul c.loop-y.y 1 a.part.width),
      rows_more a.cut.now a.out.now a.stride (part_of a.part) c.loop-y.y inside c.loop-y.invariant.1 (counted at),
    )

pub returns-clause-value : goal.returns-clause-value
returns-clause-value c =
    let a = c.args in
    rows_all a.cut.now a.out.now a.stride (part_of a.part) {y = c.loop-y.y} (omega arith) c.loop-y.invariant.1

pub returns-clause-upper_bound : goal.returns-clause-upper_bound
returns-clause-upper_bound c =
    let all = row_le c.args.part.width {r = c.loop-y.y} {q = c.args.part.height} (omega arith) in
    omega (arith, cut_small c.args.cut.now c.requires.room c.requires.cut_len)
