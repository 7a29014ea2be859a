-- `plane_fingerprint` meets its contract: each turn takes the next row of the view.
-- Assumes nothing.
use Rattle.std.proofs.Common.{ℕ, List, Bor, ap, ap₂, ◌∙◌, arith}
use Rattle.fingerprint.specs.Fnv.{plane_fingerprint}
use Rattle.fingerprint.proofs.Rows.{rows_all, rows_more, seen}
use Rattle.fingerprint.proofs.plane_fingerprint.Goals as goal

pub loop-y-preserved : goal.loop-y-preserved
loop-y-preserved c =
    let v = c.plane_view-view.result in
    c.with_row-sum.ensures ∙ rows_more v.samples.now v.width v.height c.loop-y.y c.loop-y.invariant

pub returns : goal.returns
returns c =
    let a = c.args in
    let view = c.plane_view-view in
    let v = view.result in
    c.loop-y.invariant
    ∙ rows_all v.samples.now v.width v.height c.loop-y.y (omega arith)
    ∙ ap (λ (list : Bor (List ℕ)). plane_fingerprint list.now v.width v.height) view.ensures.samples
    ∙ ap₂ (plane_fingerprint a.plane.now) view.ensures.width view.ensures.height
    ∙ seen a.plane.now a.width a.height
