-- Document 01: "If an answer is an enum, a definition gives this paper's number and values for every case of the
-- enum". "The result is a number and a place; 0 with place 0 means accepted"; the places of 1 to 6 are 0.
use Rattle.std.specs.Prelude.{ℕ, Result, Ok, Err}
use Rattle.picture.specs.Ledger as Ledger
use Rattle.ledger.specs.declared.Refusal.TheVariants.{Size, Format, Depth, CtbSize, Offset}
use Rattle.ledger.specs.declared.Refusal.TheVariants.{Lengths, Slice, TileStart, Cell, Sample}
use Rattle.ledger.specs.declared.Refusal.{Refusal}

abbrev pub refusal : ℕ → ℕ → Ledger.Verdict
refusal number place = record { number = number; place = place }

abbrev pub refused : Refusal → Ledger.Verdict
refused Size = refusal 1 0
refused Format = refusal 2 0
refused Depth = refusal 3 0
refused CtbSize = refusal 4 0
refused Offset = refusal 5 0
refused Lengths = refusal 6 0
refused (Slice n) = refusal 7 n
refused (TileStart n) = refusal 8 n
refused (Cell n) = refusal 9 n
refused (Sample n) = refusal 10 n

abbrev pub numbered : Result (Unit {0}) Refusal → Ledger.Verdict
numbered (Ok _) = Ledger.acceptance
numbered (Err r) = refused r
