-- `horizontal_luma` meets its contract: the decision is the window's, the enum loses nothing of it, and its counts come
-- with it.
-- Assumes nothing.
use Rattle.luma_windows.proofs.Decided.{window_answered}
use Rattle.luma_windows.proofs.luma.horizontal_luma.Goals as goal

pub returns : goal.returns
returns c =
    let answered =
    window_answered _ _ _ _ c.decide-d.ensures c.filter_rows.ensures
    (c.with_counts.ensures.decision, c.with_counts.ensures.counts) in
    record { filtered = answered.0; value = answered.1 }
