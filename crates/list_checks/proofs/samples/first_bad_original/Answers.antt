-- `first_bad_original` meets its contract: the place found in a plane, numbered on after the planes before it.
-- Assumes nothing.
use Rattle.std.proofs.Common.{◌≡◌, ◌∙◌, refl}
use Rattle.picture.specs.Causes.{samples_cause}
use Rattle.picture.specs.Given.{of_planes}
use Rattle.picture.specs.Ledger.{and_then, first_place}
use Rattle.picture.specs.Lent.{planes_lent}
use Rattle.picture.specs.Picture.{Picture}
use Rattle.picture.specs.Scale.{Y, Cb, Cr}
use Rattle.list_checks.proofs.Places.{in_first, in_neither, in_second}
use Rattle.list_checks.proofs.samples.first_bad_original.Goals as goal

pub returns-in-Some : goal.returns-in-Some
returns-in-Some c =
    let p : Picture = of_planes c.args.settings (planes_lent c.args.planes.now) in
    let in-y : c.first_bad_sample.result ≡ first_place (samples_cause p Y) =
    rw c.largest_at.ensures at c.first_bad_sample.ensures in
    in_first (samples_cause p Y) (and_then (samples_cause p Cb) (samples_cause p Cr)) in-y refl c.in-Some.is

pub returns-in-Some-first_bad_sample : goal.returns-in-Some-first_bad_sample
returns-in-Some-first_bad_sample c =
    let p : Picture = of_planes c.args.settings (planes_lent c.args.planes.now) in
    let in-y : c.first_bad_sample.result ≡ first_place (samples_cause p Y) =
    rw c.largest_at.ensures at c.first_bad_sample.ensures in
    let in-cb : c.first_bad_sample-2.result ≡ first_place (samples_cause p Cb) =
    rw c.largest_at-largest.ensures at c.first_bad_sample-2.ensures in
    in_second (samples_cause p Y) (and_then (samples_cause p Cb) (samples_cause p Cr)) in-y
    (in_first (samples_cause p Cb) (samples_cause p Cr) in-cb refl c.in-Some-first_bad_sample.is) c.in_default.not-Some refl

pub returns-in_err-k : goal.returns-in_err-k
returns-in_err-k c =
    let p : Picture = of_planes c.args.settings (planes_lent c.args.planes.now) in
    let in-y : c.first_bad_sample.result ≡ first_place (samples_cause p Y) =
    rw c.largest_at.ensures at c.first_bad_sample.ensures in
    let in-cb : c.first_bad_sample-2.result ≡ first_place (samples_cause p Cb) =
    rw c.largest_at-largest.ensures at c.first_bad_sample-2.ensures in
    let in-cr : c.first_bad_sample-3.result ≡ first_place (samples_cause p Cr) =
    rw c.largest_at-largest.ensures at c.first_bad_sample-3.ensures in
    c.from_residual.ensures
    ∙ in_neither (samples_cause p Y) (and_then (samples_cause p Cb) (samples_cause p Cr)) in-y
    (in_neither (samples_cause p Cb) (samples_cause p Cr) in-cb in-cr c.in_default-first_bad_sample.not-Some c.in_err-k.was)
    c.in_default.not-Some refl

pub returns : goal.returns
returns c =
    let p : Picture = of_planes c.args.settings (planes_lent c.args.planes.now) in
    let in-y : c.first_bad_sample.result ≡ first_place (samples_cause p Y) =
    rw c.largest_at.ensures at c.first_bad_sample.ensures in
    let in-cb : c.first_bad_sample-2.result ≡ first_place (samples_cause p Cb) =
    rw c.largest_at-largest.ensures at c.first_bad_sample-2.ensures in
    let in-cr : c.first_bad_sample-3.result ≡ first_place (samples_cause p Cr) =
    rw c.largest_at-largest.ensures at c.first_bad_sample-3.ensures in
    in_second (samples_cause p Y) (and_then (samples_cause p Cb) (samples_cause p Cr)) in-y
    (in_second (samples_cause p Cb) (samples_cause p Cr) in-cb in-cr c.in_default-first_bad_sample.not-Some c.in_ok-k.was)
    c.in_default.not-Some refl
