-- `with_planes` meets what it calls: the lists are lent at the planes' own lengths.
-- Assumes nothing.
use native.Mathlib.Omega.{arith}
use lib.ListN.{length-take}
use Rattle.plane_counts.proofs.turn.with_planes.Goals as goal

pub slice_bounds-read_and_count-end : goal.slice_bounds-read_and_count-end
slice_bounds-read_and_count-end g c =
    simp length-take (omega arith)

pub slice_bounds-read_and_count-end-2 : goal.slice_bounds-read_and_count-end-2
slice_bounds-read_and_count-end-2 c =
    simp length-take (omega arith)

pub read_and_count-requires : goal.read_and_count-requires
read_and_count-requires g c =
    record {
      fitting = c.requires;
      first_len = simp length-take (omega arith);
      second_len = simp length-take (omega arith);
    }
