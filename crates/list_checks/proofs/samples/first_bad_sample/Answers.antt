-- `first_bad_sample` meets its contract: no sample of the blocks that are passed over is above the largest, and the
-- loop goes on after them. Its invariant: the samples passed are not above the largest.
-- Assumes nothing.
use Rattle.std.proofs.Common.{arith, rules, tests}
use Rattle.std.proofs.lemmas.Iterator.{first_from_Range}
use borrow.Author.Tests.{lt-ltb}
use Rattle.list_checks.specs.Samples.{above}
use Rattle.list_checks.proofs.Blocks.{Low, passed_low}
use Rattle.list_checks.proofs.Places.{found_at, place_none}
use Rattle.list_checks.proofs.samples.first_bad_sample.Goals as goal

pub loop-k-init : goal.loop-k-init
loop-k-init c =
    let plane = c.args.plane.now in
    passed_low plane c.args.largest c.find.result
    (first_from_Range _ _ _ c.find.result (λ _. Unit {0}) (Low plane c.args.largest) c.find.ensures.ran (λ x q k. tt)
    (λ x q k. search (rules, tests)))
    c.unwrap_or-passed.ensures

pub returns-then-largest-plane : goal.returns-then-largest-plane
returns-then-largest-plane c =
    found_at (above c.args.largest c.args.plane.now) c.loop-k-test.true c.loop-k.invariant
    (lt-ltb _ _ c.if-largest-plane.true)

pub returns : goal.returns
returns c =
    place_none (above c.args.largest c.args.plane.now) (λ k h. c.loop-k.invariant k (omega arith))
