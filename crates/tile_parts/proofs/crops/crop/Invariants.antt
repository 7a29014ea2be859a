-- `crop` meets its contract. The loop's invariant: the part's first y rows are copied.
-- Assumes nothing.
use Prim.Native.Nat.{◌*◌}
use mathlib.Core.Path.{◌≡◌}
use lib.ListN.{take}
use Rattle.tile_parts.specs.Parts.{part_of, first_rows}
use Rattle.tile_parts.proofs.crops.crop.Given as goal

abbrev pub invariant-loop-y : goal.invariant-loop-y
invariant-loop-y g l = take (l.y * l.part.width) l.to ≡ first_rows l.from l.stride (part_of l.part) l.y
