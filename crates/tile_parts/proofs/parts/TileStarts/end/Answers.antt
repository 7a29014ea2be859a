-- `end` meets its contract: the next tile's first sample, or the picture's end.
-- Assumes nothing.
use Prim.Native.Nat.{◌^◌}
use native.Mathlib.Omega.{arith}
use Rattle.tile_parts.proofs.Tiles.{end_next, end_last}
use Rattle.tile_parts.proofs.parts.TileStarts.end.Goals as goal

pub returns-then-i-self : goal.returns-then-i-self
returns-then-i-self c =
    let s = c.args.self.now in
    end_next s.ctbs.now (2 ^ s.log2_ctb) s.total c.args.i (omega arith) c.first.ensures

pub returns : goal.returns
returns c =
    let s = c.args.self.now in
    end_last s.ctbs.now (2 ^ s.log2_ctb) s.total c.args.i (omega arith)
