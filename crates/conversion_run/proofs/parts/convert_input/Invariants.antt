-- `convert_input`'s loop: the parts so far were full, and are written converted.
use Rattle.std.proofs.Common.{◌*◌, min, true}
use Rattle.conversion_run.specs.Streams.{Converts}
use Rattle.conversion_run.proofs.parts.convert_input.Given as goal

abbrev pub invariant-loop-part : goal.invariant-loop-part
invariant-loop-part g l =
    Converts (min (l.part * 32768) l.most) true (g.R.Read.remaining l.initial.input) (g.R.Read.remaining l.input)
    (g.W.Write.contents l.initial.output) (g.W.Write.contents l.output)
