-- `biased_offset` meets its contract: an offset in range, plus 12, is a small natural number.
-- Assumes nothing.
use lib.IntN.{pos, ◌+ℤ◌}
use mathlib.Core.Path.{◌≡◌}
use mir.Facts.{to_z-of_z}
use mir.Syntax.{w32}
use mir.Val.{SFits, to_z, of_z}
use Rattle.stage.proofs.Offsets.{sum_fits, sum_casts, sum_back}
use Rattle.stage.proofs.components.biased_offset.Goals as goal
use Rattle.stage.proofs.components.biased_offset.Goals.{Start}

-- the register holds the offset
held : (c : Start) → to_z w32 (of_z w32 c.args.offset) ≡ c.args.offset
held c =
    to_z-of_z c.ranges.offset

fits : (c : Start) → SFits w32 (to_z w32 (of_z w32 c.args.offset) +ℤ pos 12)
fits c =
    let held : to_z w32 (of_z w32 c.args.offset) ≡ c.args.offset =
    to_z-of_z c.ranges.offset in
    sum_fits c.args.offset _ held c.requires

pub overflow_add-result : goal.overflow_add-result
overflow_add-result c =
    (fits (goal.at.overflow_add-result c).Start)

pub overflow_cast-result : goal.overflow_cast-result
overflow_cast-result c =
    sum_casts c.args.offset _ (held (goal.at.overflow_cast-result c).Start) c.requires _
    (to_z-of_z (fits (goal.at.overflow_cast-result c).Start))

pub returns : goal.returns
returns c =
    sum_back c.args.offset _ (held (goal.at.returns c).Start) c.requires _ (to_z-of_z (fits (goal.at.returns c).Start))
