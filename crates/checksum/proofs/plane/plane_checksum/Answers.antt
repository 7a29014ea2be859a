-- `plane_checksum` meets its contract: all rows are in.
-- Assumes nothing.
use Rattle.std.proofs.Common.{◌≡◌, ℕ, ◌%◌, ◌^◌, ap, ◌∙◌, arith}
use Rattle.checksum.proofs.Rows.{rows_all, rows_sum}
use Rattle.checksum.proofs.plane.plane_checksum.Goals as goal

pub returns : goal.returns
returns c =
    let l = c.loop-y in
    let a = c.args in
    let all : l.y ≡ a.height = omega arith in
    l.invariant ∙ ap (λ (n : ℕ). rows_sum a.depth a.plane.now a.width n % 2 ^ 32) all
    ∙ rows_all a.depth a.plane.now a.width a.height
