-- `plane_sample` meets its contract: what the view gives is the plane's sample.
-- Assumes nothing.
use Rattle.std.proofs.Common.{ℕ, List, Bor, ap, ap₂, ◌∙◌}
use Rattle.plane_view.specs.View.{sample_in}
use Rattle.plane_view.proofs.Places.{seen}
use Rattle.plane_view.proofs.samples.plane_sample.Goals as goal

pub returns : goal.returns
returns c =
    let a = c.args in
    let view = c.plane_view.result in
    c.sample_at.ensures.view
    ∙ ap (λ (list : Bor (List ℕ)). sample_in list.now view.width view.height a.x a.y) c.plane_view.ensures.samples
    ∙ ap₂ (λ (m n : ℕ). sample_in a.samples.now m n a.x a.y) c.plane_view.ensures.width c.plane_view.ensures.height
    ∙ seen a.samples.now a.width a.height a.x a.y
