-- `deblock` meets its contract: an accepted picture has what each component needs, and each finished plane is the
-- definition's.
-- Assumes nothing.
use Prim.Native.Nat.{◌<◌}
use mathlib.Core.Path.{◌∙◌}
use mir.Facts.{to_z-of_z}
use mir.Syntax.{w32}
use mir.Val.{SFits}
use native.Mathlib.Omega.{arith}
use borrow.Author.Rules.{rules}
use Rattle.picture.specs.Given.{planes_of}
use Rattle.picture.specs.Lent.{picture_lent}
use Rattle.picture.specs.Picture.{Picture, Planes}
use Rattle.picture.specs.Scale.{Y, Cb, Cr}
use Rattle.stage.proofs.Accepted.{plane_ready}
use Rattle.stage.proofs.Outcome.{plane_finished, planes_finished, absent_plane}
use Rattle.stage.proofs.driver.deblock.Goals as goal
use Rattle.stage.proofs.driver.deblock.Goals.{Start, Else-settings-eq0}

-- the picture and the outputs at the call
abbrev picture : Start → Picture
picture c = picture_lent c.args.picture.now

abbrev lent : Start → Planes
lent c = planes_of c.args.outy.now c.args.outcb.now c.args.outcr.now

-- there is chroma
present : (c : Else-settings-eq0) → 0 < c.args.picture.now.settings.chroma_format
present c =
    omega (arith, c.if-settings-eq0.false)

pub finish_plane-requires : goal.finish_plane-requires
finish_plane-requires c =
    let at = goal.at.finish_plane-requires c in
    plane_ready (picture at.Start) (lent at.Start) c.requires 12 Y tt c.luma_component-k.ensures
    c.luma_frame-f.ensures c.restoration_of-r.ensures c.luma_tc_table-tcs.ensures

pub returns-then-settings-eq0 : goal.returns-then-settings-eq0
returns-then-settings-eq0 c =
    let format = c.args.picture.now.settings.chroma_format in
    let p = picture (goal.at.returns-then-settings-eq0 c).Start in
    planes_finished p _ _ _
    (plane_finished p 12 Y tt c.restoration_of-r.ensures.0 c.luma_component-k.ensures c.luma_frame-f.ensures _
    c.finish_plane.ensures)
    (absent_plane format _ _ c.args.outcb.now _ c.if-settings-eq0.true (c.requires.outputs_long Cb))
    (absent_plane format _ _ c.args.outcr.now _ c.if-settings-eq0.true (c.requires.outputs_long Cr))

pub finish_plane-requires-2 : goal.finish_plane-requires-2
finish_plane-requires-2 c =
    let at = goal.at.finish_plane-requires-2 c in
    plane_ready (picture at.Start) (lent at.Start) c.requires _ Cb (present at.Else-settings-eq0)
    c.chroma_component-kb.ensures
    c.chroma_frame-fc.ensures c.restoration_of-r.ensures c.luma_tc_table-tcs.ensures

pub finish_plane-requires-3 : goal.finish_plane-requires-3
finish_plane-requires-3 c =
    let at = goal.at.finish_plane-requires-3 c in
    plane_ready (picture at.Start) (lent at.Start) c.requires _ Cr (present at.Else-settings-eq0)
    c.chroma_component-kr.ensures
    c.chroma_frame-fc.ensures c.restoration_of-r.ensures c.luma_tc_table-tcs.ensures

pub returns : goal.returns
returns c =
    let r = c.restoration_of-r.ensures.0 in
    let settings = c.args.picture.now.settings in
    let p = picture (goal.at.returns c).Start in
    let cb_fits : SFits w32 settings.cb_qp_offset = search rules in
    let cr_fits : SFits w32 settings.cr_qp_offset = search rules in
    planes_finished p _ _ _
    (plane_finished p 12 Y tt r c.luma_component-k.ensures c.luma_frame-f.ensures _ c.finish_plane.ensures)
    (plane_finished p _ Cb (c.biased_offset.ensures ∙ to_z-of_z cb_fits) r
    c.chroma_component-kb.ensures c.chroma_frame-fc.ensures _ c.finish_plane-2.ensures)
    (plane_finished p _ Cr (c.biased_offset-2.ensures ∙ to_z-of_z cr_fits) r
    c.chroma_component-kr.ensures c.chroma_frame-fc.ensures _ c.finish_plane-3.ensures)
