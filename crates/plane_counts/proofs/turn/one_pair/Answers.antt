-- `one_pair` meets what it calls: both tests passed.
-- Assumes nothing.
use Rattle.std.proofs.Common.{sym, ◌∙◌}
use Rattle.plane_counts.proofs.Bounds.{fitting}
use Rattle.plane_counts.proofs.turn.one_pair.Goals as goal

pub with_planes-requires : goal.with_planes-requires
with_planes-requires g c =
    fitting _ (sym c.is_small.ensures ∙ c.if-not-is_small.false) (sym c.is_inside.ensures ∙ c.if-not-is_inside.false)
