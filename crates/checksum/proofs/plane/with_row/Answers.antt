-- `with_row` meets its contract: at depth 8 a row is its low bytes, above it its low bytes and its high parts.
-- Assumes nothing.
use Rattle.std.proofs.Common.{◌≡◌, ◌+◌, ◌%◌, ◌^◌, true, false, rules, arith}
use Rattle.checksum.proofs.Rows.{parts, row_of_bytes, row_of_parts}
use Rattle.checksum.proofs.plane.with_row.Goals.{After-with_parts-low}
use Rattle.checksum.proofs.plane.with_row.Goals as goal

low : (c : After-with_parts-low) → let a = c.args in
    c.with_parts-low.result ≡ (a.before + parts a.plane.now a.width a.y false) % 2 ^ 32
low c = rw c.folded-row.ensures at (c.with_parts-low.ensures false (λ s r h p. search rules))

pub returns-then-depth-le8 : goal.returns-then-depth-le8
returns-then-depth-le8 c =
    let a = c.args in
    row_of_bytes a.plane.now a.width a.y (2 ^ 32) a.before a.depth (omega arith)
    (low (goal.at.returns-then-depth-le8 c).After-with_parts-low)

pub returns : goal.returns
returns c =
    let a = c.args in
    row_of_parts a.plane.now a.width a.y (2 ^ 32) a.before a.depth (omega arith)
    (low (goal.at.returns c).After-with_parts-low)
    (rw c.folded-row.ensures at (c.with_parts.ensures true (λ s r h p. search rules)))
