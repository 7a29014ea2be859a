-- The number that stands for each refusal of a record, and 0 for none.
use Rattle.std.specs.Prelude.{ℕ, Result, Ok, Err}
use Rattle.bench_record.specs.declared.refusal.RecordRefusal.{RecordRefusal}
use Rattle.bench_record.specs.declared.refusal.RecordRefusal.TheVariants.{Depth, Offsets, Others, Sample}

abbrev pub number_of : RecordRefusal → ℕ
number_of Depth = 3
number_of Offsets = 7
number_of Others = 9
number_of Sample = 10

abbrev pub numbered : Result (Unit {0}) RecordRefusal → ℕ
numbered (Ok _) = 0
numbered (Err refusal) = number_of refusal
