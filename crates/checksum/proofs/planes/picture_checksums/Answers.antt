-- `picture_checksums` meets its contract: a refusal is the answer; else the sums are those of the planes.
-- Assumes nothing.
use Rattle.std.proofs.Common.{◌≡◌, sym, ap, ◌∙◌, mul_comm, arith}
use Rattle.std.proofs.lemmas.Result.{err_from_is_err_and}
use Rattle.picture.specs.Accepted.{GivenPlanesOk}
use Rattle.picture.specs.Causes.{planes_ledger}
use Rattle.picture.specs.Given.{of_planes}
use Rattle.picture.specs.Ledger.{acceptance, first_of}
use Rattle.picture.specs.Lent.{planes_lent}
use Rattle.picture.specs.Picture.{Picture}
use Rattle.picture.specs.Scale.{Y, Cb, Cr}
use Rattle.picture.proofs.Accepted.{planes_by}
use Rattle.ledger.specs.Numbered.{numbered, refused}
use Rattle.ledger.proofs.Refusals.{refuses}
use Rattle.checksum.specs.Answer.{answer_of}
use Rattle.checksum.proofs.Answers.{chroma_sums, one_sum, summed, three_sums, without_sums}
use Rattle.checksum.proofs.planes.picture_checksums.Goals.{In_ok-check_planes}
use Rattle.checksum.proofs.planes.picture_checksums.Goals as goal

pub returns-in_err-check_planes : goal.returns-in_err-check_planes
returns-in_err-check_planes c =
    let p = of_planes c.args.settings (planes_lent c.args.planes.now) in
    let given = err_from_is_err_and c.from_residual.result c.from_residual.ensures.1 in
    ap answer_of given.1
    ∙ without_sums p (ap refused given.2 ∙ sym (ap numbered c.in_err-check_planes.was) ∙ c.check_planes.ensures)
    (refuses given.0)

abbrev picture : In_ok-check_planes → Picture
picture c = of_planes c.args.settings (planes_lent c.args.planes.now)

-- the planes' ledger accepts, and so they have their lengths
accepted : (c : In_ok-check_planes) → acceptance ≡ first_of (planes_ledger (picture c))
accepted c = sym (ap numbered c.in_ok-check_planes.was) ∙ c.check_planes.ensures

ok : (c : In_ok-check_planes) → GivenPlanesOk (picture c)
ok c = planes_by (picture c) (sym (accepted c))

pub plane_checksum-luma-requires : goal.plane_checksum-luma-requires
plane_checksum-luma-requires c =
    let t = c.args.settings in
    let o = (ok (goal.at.plane_checksum-luma-requires c).In_ok-check_planes).originals Y in
    omega (arith, o, mul_comm t.width t.height)

pub returns-then-settings-eq0 : goal.returns-then-settings-eq0
returns-then-settings-eq0 c =
    let i = (goal.at.returns-then-settings-eq0 c).In_ok-check_planes in
    let p = picture i in
    summed p (accepted i) (one_sum p c.if-settings-eq0.true c.plane_checksum-luma.ensures)

pub chroma_checksum-requires-clause-plane_len : goal.chroma_checksum-requires-clause-plane_len
chroma_checksum-requires-clause-plane_len c =
    (ok (goal.at.chroma_checksum-requires-clause-plane_len c).In_ok-check_planes).originals Cb

pub chroma_checksum-requires-2-clause-plane_len : goal.chroma_checksum-requires-2-clause-plane_len
chroma_checksum-requires-2-clause-plane_len c =
    (ok (goal.at.chroma_checksum-requires-2-clause-plane_len c).In_ok-check_planes).originals Cr

pub returns : goal.returns
returns c =
    let i = (goal.at.returns c).In_ok-check_planes in
    let p = picture i in
    summed p (accepted i)
    (three_sums p c.if-settings-eq0.false c.plane_checksum-luma.ensures
    (c.chroma_checksum.ensures ∙ (chroma_sums p).0) (c.chroma_checksum-2.ensures ∙ (chroma_sums p).1))
