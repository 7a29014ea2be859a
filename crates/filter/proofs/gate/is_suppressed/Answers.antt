-- `is_suppressed` meets its contract: it is the definition's own expression, by flag bits 2, 3 and 4.
-- Assumes nothing.
use mathlib.Core.Path.{refl}
use Rattle.picture.specs.Cell.{suppressed}
use Rattle.filter.proofs.gate.is_suppressed.Goals as goal

pub returns : goal.returns
unfolding suppressed
returns c =
    refl
