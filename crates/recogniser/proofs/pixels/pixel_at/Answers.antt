-- `pixel_at` meets its contract: a refusal of the planes is the answer, else cause 14, else the parts.
-- Assumes nothing.
use Rattle.std.proofs.Common.{refl, sym, ap, ◌∙◌, subst, arith}
use Rattle.std.proofs.lemmas.Result.{err_from_is_err_and}
use Rattle.std.specs.Prelude.{Result, Ok, Err}
use Rattle.picture.specs.Causes.{planes_ledger}
use Rattle.picture.specs.Given.{of_planes}
use Rattle.picture.specs.Ledger.{first_of}
use Rattle.picture.specs.Lent.{planes_lent}
use Rattle.picture.specs.Picture.{Picture}
use Rattle.picture.proofs.Accepted.{planes_by}
use Rattle.ledger.specs.Numbered.{numbered}
use Rattle.ledger.proofs.Answers.{LeftTo, all_left, answers, goes_on, refused_by, stops, told_past}
use Rattle.ledger.proofs.Refusals.{refuses}
use Rattle.recogniser.specs.declared.Pixel.{Pixel}
use Rattle.recogniser.specs.declared.PixelRefusal.TheVariants.{Outside, Planes}
use Rattle.recogniser.specs.declared.PixelRefusal.{PixelRefusal}
use Rattle.recogniser.specs.Pixel.{Answered, cause14, outside, pixel_answer, pixel_ledger}
use Rattle.recogniser.proofs.Answers.{with_parts, without_parts}
use Rattle.recogniser.proofs.pixels.pixel_at.Goals as goal
use Rattle.recogniser.proofs.pixels.pixel_at.Goals.{In_ok-check_planes}

pub returns-in_err-check_planes : goal.returns-in_err-check_planes
returns-in_err-check_planes c =
    let a = c.args in
    let p = of_planes a.settings (planes_lent a.planes.now) in
    let given = err_from_is_err_and c.from_residual.result c.from_residual.ensures.1 in
    let refusal = c.in_err-check_planes.field-0.0 in
    let told = sym (ap numbered c.in_err-check_planes.was) ∙ c.check_planes.ensures in
    subst (λ (r : Result Pixel PixelRefusal). Answered r (pixel_answer p a.column a.row))
    (sym (given.1 ∙ ap Err given.2))
    (without_parts p a.column a.row (Err (Planes refusal))
    (refused_by (planes_ledger p) (cause14 p a.column a.row) told (refuses refusal)) (refuses refusal) tt)

abbrev picture : In_ok-check_planes → Picture
picture c = of_planes c.args.settings (planes_lent c.args.planes.now)

-- what is answered is left to cause 14
rest : (c : In_ok-check_planes) → let a = c.args in
    LeftTo (first_of (pixel_ledger (picture c) a.column a.row)) (cause14 (picture c) a.column a.row)
rest c =
    let a = c.args in
    let p = picture c in
    told_past (planes_ledger p) (cause14 p a.column a.row) (omega arith) c.check_planes.ensures
    c.in_ok-check_planes.was (all_left (pixel_ledger p a.column a.row))

pub returns-then-is_outside : goal.returns-then-is_outside
returns-then-is_outside c =
    let i = (goal.at.returns-then-is_outside c).In_ok-check_planes in
    let a = c.args in
    let p = picture i in
    without_parts p a.column a.row (Err Outside)
    (stops (outside p a.column a.row) c.is_outside.ensures (rest i) c.if-is_outside.true)
    (omega arith) tt

-- the planes passed their checks
pub pixel_inside-requires-clause-given_planes_ok : goal.pixel_inside-requires-clause-given_planes_ok
pixel_inside-requires-clause-given_planes_ok c =
    planes_by _ (sym c.check_planes.ensures ∙ ap numbered c.in_ok-check_planes.was)

pub returns : goal.returns
returns c =
    let i = (goal.at.returns c).In_ok-check_planes in
    let a = c.args in
    let p = picture i in
    let left = goes_on (outside p a.column a.row) c.is_outside.ensures (rest i) c.if-is_outside.false in
    with_parts p a.column a.row (Ok c.pixel_inside.result) (answers left refl) c.pixel_inside.ensures
