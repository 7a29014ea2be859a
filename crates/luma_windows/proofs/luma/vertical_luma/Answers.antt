-- `vertical_luma` meets its contract: the decision is the window's, its counts come with it, and lines that it leaves
-- alone are as they were.
-- Assumes nothing.
use Rattle.luma_windows.proofs.Decided.{decided_as, none_decided, window_answered}
use Rattle.luma_windows.proofs.luma.vertical_luma.Goals as goal

pub returns-in-Skip : goal.returns-in-Skip
returns-in-Skip c =
    let t = c.args.t in
    let answered =
    window_answered t _ _ _ c.decide-d.ensures
    (decided_as t _ _ _ c.in-Skip.is (none_decided t _ _ _ _))
    (c.with_counts.ensures.decision, c.with_counts.ensures.counts) in
    record { filtered = answered.0; value = answered.1 }

pub returns : goal.returns
returns c =
    let answered =
    window_answered _ _ _ _ c.decide-d.ensures c.filter_turned.ensures
    (c.with_counts-2.ensures.decision, c.with_counts-2.ensures.counts) in
    record { filtered = answered.0; value = answered.1 }
