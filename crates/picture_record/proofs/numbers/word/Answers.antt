-- `word` meets its contract: its four bytes, joined.
-- Assumes nothing.
use mathlib.Core.Path.{◌∙◌}
use Rattle.picture_record.proofs.Joined.{word_joined}
use Rattle.picture_record.proofs.numbers.word.Goals as goal

pub returns : goal.returns
returns c =
    c.from_le_bytes.ensures ∙ word_joined c.args.bytes.now c.args.k c.requires
