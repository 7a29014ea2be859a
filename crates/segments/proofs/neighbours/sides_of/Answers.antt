-- `sides_of` meets its contract: `sides_made` puts the lookups together.
-- Assumes nothing.
use Rattle.segments.proofs.Looks.{sides_made}
use Rattle.segments.proofs.neighbours.sides_of.Goals as goal

pub returns : goal.returns
returns g c =
    sides_made g.D.EdgeDirection.direction _ _ _ _ _ _ c.position_p-p.ensures c.cell_of.ensures c.cell_of-2.ensures
    c.in_one_tile.ensures
