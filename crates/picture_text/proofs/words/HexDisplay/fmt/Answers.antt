-- `fmt` meets its contract: the format's digits are the number's.
-- Assumes nothing.
use Rattle.picture_text.proofs.Hex.{hexed}
use Rattle.picture_text.proofs.words.HexDisplay.fmt.Goals as goal

pub returns-clause-writes : goal.returns-clause-writes
returns-clause-writes g c =
    rw (hexed c.in_radix.result c.laid_out.result g.row.N c.args.self.now.0 c.in_radix.ensures c.laid_out.ensures)
    at c.write.ensures.writes
