-- Cause 10 of the ledger, one plane at a time.
use Rattle.std.specs.Prelude.{ℕ, List, ltb, length, get_or}
use Rattle.picture.specs.Ledger.{Cause}

-- "an original sample above its largest", in one plane (proofs/Forms.antt: that is samples_cause)
abbrev pub above : ℕ → List ℕ → Cause
above largest plane = record { count = length plane; bad = λ k. ltb largest (get_or plane k 0) }
