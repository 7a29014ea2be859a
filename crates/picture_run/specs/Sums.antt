-- The checksums of what the stage left (document 02, C-11): those of its planes where the picture was accepted, and the
-- stage's own refusal where it was not.
use Rattle.std.specs.Prelude.{cond, [], eqb}
use Rattle.checksum.specs.Answer.{Answer, checksum_answer}
use Rattle.picture.specs.Ledger.{Verdict}
use Rattle.picture.specs.Picture.{Picture}

abbrev pub finished_answer : Verdict → Picture → Answer
finished_answer v p = cond (eqb v.number 0) (checksum_answer p) (record { verdict = v; sums = [] })
