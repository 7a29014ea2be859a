-- `all_samples` meets its contract: with each sample one more is counted, and its float is in.
-- Assumes nothing.
use Prim.Native.Nat.{◌+◌, ◌^◌, ◌<◌}
use mathlib.Core.Path.{◌≡◌, refl, ap, ◌∙◌}
use native.Mathlib.Omega.{arith}
use Rattle.sample_trips.specs.Trip.{patterns}
use Rattle.sample_trips.proofs.Patterns.{in_range, more, none, past}
use Rattle.sample_trips.proofs.all_samples.Goals as goal
use Rattle.sample_trips.proofs.all_samples.Goals.{After-comes_back-count}

-- the sample of a turn is one of the depth's
below : (c : After-comes_back-count) → c.loop-sample.sample < 2 ^ c.args.depth
below c =
    in_range c.args.depth c.loop-sample.sample
    (omega (arith, c.loop-sample-test.true, c.largest_at-sample-end.ensures))

-- the floats with that of the turn
with_float : (c : After-comes_back-count)
    → c.with_word-patterns.result ≡ patterns c.args.depth c.args.chroma (c.loop-sample.sample + 1)
with_float c =
    let a = c.args in
    let l = c.loop-sample in
    let next =
    more a.depth a.chroma c.requires l.sample c.part-float.result c.part-float.type_inv c.part-float.ensures
    l.invariant.2 c.bits_of.ensures in
    c.with_word-patterns.ensures ∙ next ∙ ap (patterns a.depth a.chroma) (omega arith)

pub loop-sample-init : goal.loop-sample-init
loop-sample-init c = (omega arith, refl, none c.args.depth c.args.chroma)

pub loop-sample-preserved : goal.loop-sample-preserved
loop-sample-preserved c =
    let turn = (goal.at.loop-sample-preserved c).After-comes_back-count in
    (omega (arith, below turn), omega (arith, c.comes_back-count.ensures, c.loop-sample.invariant.1), with_float turn)

pub returns-2 : goal.returns-2
returns-2 c =
    let a = c.args in
    let l = c.loop-sample in
    let turn = (goal.at.returns-2 c).After-comes_back-count in
    let all =
    past a.depth (l.sample + 1) (omega (arith, below turn))
    (omega (arith, c.largest_at-sample-end.ensures)) in (
      omega (arith, all, c.comes_back-count.ensures, l.invariant.1),
      with_float turn ∙ ap (patterns a.depth a.chroma) all,
    )
