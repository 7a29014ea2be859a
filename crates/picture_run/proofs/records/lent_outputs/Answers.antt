-- `lent_outputs` meets its contract: each plane is what its length ensures.
-- Assumes nothing.
use Rattle.picture_run.proofs.records.lent_outputs.Goals as goal

pub returns : goal.returns
returns c =
    λ i. record { y = c.length_at.ensures i; cb = c.length_at-2.ensures i; cr = c.length_at-3.ensures i }
