-- `fingerprint` meets its contract: a list is a plane of one row.
-- Assumes nothing.
use Rattle.std.proofs.Common.{◌∙◌}
use Rattle.fingerprint.proofs.Rows.{one_row}
use Rattle.fingerprint.proofs.fingerprint.Goals as goal

pub returns : goal.returns
returns c =
    c.plane_fingerprint.ensures ∙ one_row _
