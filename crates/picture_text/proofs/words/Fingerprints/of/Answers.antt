-- `of` meets its contract: each plane's is what its fingerprint ensures.
-- Assumes nothing.
use Rattle.picture_text.proofs.words.Fingerprints.of.Goals as goal

pub returns : goal.returns
returns c =
    λ i. record { y = c.fingerprint.ensures i; cb = c.fingerprint-2.ensures i; cr = c.fingerprint-3.ensures i }
