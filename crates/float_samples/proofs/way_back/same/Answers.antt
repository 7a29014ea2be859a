-- `same` meets its contract: of two numbers the patterns are compared.
-- Assumes nothing.
use Rattle.std.proofs.Common.{T, sym, ap, subst, eqb→eq, eq-eqb}
use lib.Ieee.{binary32, to_bits}
use Rattle.float_samples.proofs.Exact.{one_pattern}
use Rattle.float_samples.proofs.way_back.same.Goals as goal

pub returns : goal.returns
returns c =
    let good = c.well_formed in (
      λ e. one_pattern _ _ good.0.1 good.1.0.1 (eqb→eq _ _ (subst T (sym e) tt)),
      λ n e. eq-eqb _ _ (ap (to_bits binary32) e),
    )
