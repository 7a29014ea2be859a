-- `cell_of` meets its contract: the number of the cell is that of its column and row.
-- Assumes nothing.
use mathlib.Core.Path.{◌∙◌, ap}
use native.Mathlib.Omega.{arith}
use Rattle.picture.specs.Cell.{cell_at}
use Rattle.segments.proofs.Positions.{number_is}
use Rattle.segments.proofs.neighbours.cell_of.Goals as goal

pub cell_number-requires : goal.cell_number-requires
cell_number-requires c =
    omega (
      arith,
      number_is c.args.width.0 c.cell.ensures
          c.row_of_cells.ensures,
      c.requires.small,
    )

pub cell_at-requires : goal.cell_at-requires
cell_at-requires c =
    omega (
      arith,
      number_is c.args.width.0 c.cell.ensures c.row_of_cells.ensures,
      c.requires.there,
      c.cell_number.ensures,
    )

pub returns : goal.returns
returns c =
    c.cell_at.ensures
    ∙ ap (cell_at c.args.cells.now)
    (c.cell_number.ensures
    ∙ number_is c.args.width.0 c.cell.ensures c.row_of_cells.ensures)
