-- `next_trial` meets its contract: its tests are the definition's, in order.
-- Assumes nothing.
use mathlib.Core.Path.{refl}
use borrow.Author.Tests.{lt-ltb, le-ltb, le-leb, lt-leb}
use Rattle.tile_run.specs.Trials.{next_trial}
use Rattle.tile_run.proofs.tiles.next_trial.Goals as goal

pub returns-then-now-gt0 : goal.returns-then-now-gt0
unfolding next_trial
returns-then-now-gt0 c =
    rw (c.trial.ensures, lt-ltb 0 _ c.if-now-gt0.true) refl

pub returns-then-rows-at : goal.returns-then-rows-at
unfolding next_trial
returns-then-rows-at c =
    rw (c.trial-then-rows-at.ensures, le-ltb 0 _ c.if-now-gt0.false, le-leb _ _ c.if-rows-at.true) refl

pub returns-then-at-columns : goal.returns-then-at-columns
unfolding next_trial
returns-then-at-columns c =
    rw (c.trial-then-at-columns.ensures, le-ltb 0 _ c.if-now-gt0.false, lt-leb _ _ c.if-rows-at.false)
    (rw (lt-ltb _ _ c.if-at-columns.true) refl)

pub returns : goal.returns
unfolding next_trial
returns c =
    rw (c.trial-2.ensures, le-ltb 0 _ c.if-now-gt0.false, lt-leb _ _ c.if-rows-at.false)
    (rw (le-ltb _ _ c.if-at-columns.false) refl)
