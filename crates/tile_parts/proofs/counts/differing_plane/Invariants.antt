-- `differing_plane` meets its contract. The loop's invariant: n samples of the first y rows differ.
-- Assumes nothing.
use Prim.Native.Nat.{◌*◌, ◌≤◌}
use mathlib.Core.Path.{◌≡◌}
use Rattle.tile_parts.specs.Parts.{part_of}
use Rattle.tile_parts.proofs.Counted.{rows_to}
use Rattle.tile_parts.proofs.counts.differing_plane.Given as goal

abbrev pub invariant-loop-y : goal.invariant-loop-y
invariant-loop-y l = (l.n ≤ l.y * l.part.width) × (l.n ≡ rows_to l.cut l.out l.stride (part_of l.part) l.y)
