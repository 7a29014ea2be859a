-- `convert_records`'s loop: the first n records are converted.
use Rattle.conversion.proofs.Records.{Through}
use Rattle.conversion.proofs.strengths.convert_records.Given as goal

abbrev pub invariant-loop-n : goal.invariant-loop-n
invariant-loop-n l = Through l.initial.cells l.n l.cells
