-- `pixel_inside` meets its contract: it reads the samples under the pixel, and each part is what its sample gives.
-- Assumes nothing.
use Rattle.std.proofs.Common.{ℕ, true, false, subst}
use Rattle.picture.specs.Given.{of_planes}
use Rattle.picture.specs.Lent.{planes_lent}
use Rattle.picture.specs.Scale.{Y, Cb, Cr}
use Rattle.float_samples.specs.Sample.{Gives}
use Rattle.recogniser.proofs.Answers.{colour, grey}
use Rattle.recogniser.proofs.Inside.{cb_in, cb_under, cr_in, cr_under, in_range, luma_in, luma_under}
use Rattle.recogniser.proofs.pixels.pixel_inside.Goals as goal

-- the indices stand in their planes
pub bounds-planes-index_of : goal.bounds-planes-index_of
bounds-planes-index_of c = luma_in _ c.requires.given_planes_ok _ _ c.requires.inside c.index_of.ensures

pub bounds-planes-index : goal.bounds-planes-index
bounds-planes-index c =
    cb_in _ c.requires.given_planes_ok _ _ c.requires.inside c.if-settings-eq0.false c.chroma_index-index.ensures

pub bounds-planes-index-2 : goal.bounds-planes-index-2
bounds-planes-index-2 c =
    cr_in _ c.requires.given_planes_ok _ _ c.requires.inside c.if-settings-eq0.false c.chroma_index-index.ensures

-- grey
pub part-requires-clause-sample_bound : goal.part-requires-clause-sample_bound
part-requires-clause-sample_bound c =
    let ok = c.requires.given_planes_ok in
    in_range _ ok Y (luma_in _ ok _ _ c.requires.inside c.index_of.ensures)

pub returns-then-settings-eq0 : goal.returns-then-settings-eq0
returns-then-settings-eq0 c =
    let a = c.args in
    let p = of_planes a.settings (planes_lent a.planes.now) in
    grey p a.column a.row c.if-settings-eq0.true
    (subst (λ (k : ℕ). Gives a.settings.luma_depth false k c.part.result)
    (luma_under p a.column a.row c.index_of.ensures) c.part.ensures)

-- colour
pub colour_of-requires-clause-y_bound : goal.colour_of-requires-clause-y_bound
colour_of-requires-clause-y_bound c =
    let ok = c.requires.given_planes_ok in
    let inside = c.requires.inside in
    let some = c.if-settings-eq0.false in
    let index = c.chroma_index-index.ensures in (
      in_range _ ok Y (luma_in _ ok _ _ inside c.index_of.ensures),
      in_range _ ok Cb (cb_in _ ok _ _ inside some index),
      in_range _ ok Cr (cr_in _ ok _ _ inside some index),
    )

pub returns : goal.returns
returns c =
    let a = c.args in
    let p = of_planes a.settings (planes_lent a.planes.now) in
    let r = c.colour_of.result in
    let depth = a.settings.chroma_depth in
    colour p a.column a.row c.if-settings-eq0.false
    (subst (λ (k : ℕ). Gives a.settings.luma_depth false k r.luma)
    (luma_under p a.column a.row c.index_of.ensures) c.colour_of.ensures.0)
    (subst (λ (k : ℕ). Gives depth true k r.cb) (cb_under p a.column a.row c.chroma_index-index.ensures)
    c.colour_of.ensures.1)
    (subst (λ (k : ℕ). Gives depth true k r.cr) (cr_under p a.column a.row c.chroma_index-index.ensures)
    c.colour_of.ensures.2)
