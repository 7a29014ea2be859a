-- `crop` meets its contract. The loop's invariant: the part's first y rows are copied.
-- Assumes nothing.
use Prim.Native.Nat.{◌*◌, ◌≤◌}
use native.Mathlib.Omega.{arith}
use borrow.Author.Rules.{rules, scaled_fits≤}
use lib.ListN.{length}
use Rattle.tile_parts.specs.Parts.{part_of}
use Rattle.tile_parts.proofs.Cropped.{own_row, out_row, rows_none, rows_more, rows_all}
use Rattle.tile_parts.proofs.crops.crop.Goals as goal

pub loop-y-init : goal.loop-y-init
loop-y-init g c = rows_none _ _ _ _

pub offset_bounds-to-own : goal.offset_bounds-to-own
offset_bounds-to-own g c =
    let inside = own_row (part_of c.args.part) c.requires.to_len c.loop-y-test.true in
    let h : c.loop-y.y * c.args.part.width ≤ length c.args.to.now = omega arith in
    search (rules, scaled_fits≤)

pub offset_bounds-from-start : goal.offset_bounds-from-start
offset_bounds-from-start g c =
    omega (arith, out_row c.requires.room c.loop-y-test.true)

pub slice_bounds-copy_from_slice-end-in-loop-y : goal.slice_bounds-copy_from_slice-end-in-loop-y
slice_bounds-copy_from_slice-end-in-loop-y g c =
    let inside = own_row (part_of c.args.part) c.requires.to_len c.loop-y-test.true in
    let outside = out_row c.requires.room c.loop-y-test.true in
    search rules

pub loop-y-preserved : goal.loop-y-preserved
loop-y-preserved g c =
    let inside = own_row (part_of c.args.part) c.requires.to_len c.loop-y-test.true in
    let outside = out_row c.requires.room c.loop-y-test.true in
    rows_more _ _ (part_of c.args.part) c.loop-y.to _ c.loop-y.y _ _ (omega arith) c.copy_from_slice.ensures.after
    outside (omega arith) c.loop-y.invariant

pub returns : goal.returns
returns g c =
    rows_all _ _ (part_of c.args.part) c.loop-y.to c.loop-y.y (omega (arith, c.requires.to_len)) (omega arith)
    c.loop-y.invariant
