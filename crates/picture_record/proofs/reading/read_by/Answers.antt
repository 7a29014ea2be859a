-- `read_by` meets its contract: the bytes that it read are the numbers'.
-- Assumes nothing.
use Rattle.std.proofs.Common.{rules}
use Rattle.picture_record.proofs.reading.read_by.Goals as goal

pub returns : goal.returns
returns g c = (c.read_bytes.new.out, search rules, search rules, search rules)
