-- `lent_cells` meets its contract: what `length_of` ensures of the cells' bytes.
-- Assumes nothing.
use Prim.Native.Nat.{ℕ}
use mathlib.Core.Path.{ap, ◌∙◌}
use Rattle.tile_run.specs.CutLists.{length_of, lent_cells}
use Rattle.tile_run.proofs.cut_lists.lent_cells.Goals as goal

pub returns : goal.returns
unfolding lent_cells
returns c =
    let wrong = c.args.wrong in
    let bytes = c.cut_cell_bytes.ensures in
    c.length_of.ensures ∙ ap (λ (n : ℕ). length_of 4 n wrong 20000) bytes
