-- What is said of a record at fault, in place of a line. oracle/README.md has the words.
use Rattle.std.specs.Prelude.{ℕ, List, codes}
use Rattle.picture_record.specs.declared.stops.Stop.{Stop}
use Rattle.picture_record.specs.declared.stops.Stop.TheVariants.{End, Output, Short, NoPicture, TooLarge, Outside}

abbrev pub text_of : Stop → List ℕ
text_of End = codes "no further record"
text_of Output = codes "the output could not be written"
text_of Short = codes "short"
text_of NoPicture = codes "no picture"
text_of TooLarge = codes "too large"
text_of Outside = codes "outside"
