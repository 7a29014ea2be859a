-- A refusal's number is not that of acceptance.
use Rattle.std.proofs.Common.{◌<◌, arith}
use Rattle.ledger.specs.declared.Refusal.TheVariants.{Size, Format, Depth, CtbSize, Offset}
use Rattle.ledger.specs.declared.Refusal.TheVariants.{Lengths, Slice, TileStart, Cell, Sample}
use Rattle.ledger.specs.declared.Refusal.{Refusal}
use Rattle.ledger.specs.Numbered.{refused}

pub refuses : (r : Refusal) → 0 < (refused r).number
refuses Size = omega arith
refuses Format = omega arith
refuses Depth = omega arith
refuses CtbSize = omega arith
refuses Offset = omega arith
refuses Lengths = omega arith
refuses (Slice n) = omega arith
refuses (TileStart n) = omega arith
refuses (Cell n) = omega arith
refuses (Sample n) = omega arith
