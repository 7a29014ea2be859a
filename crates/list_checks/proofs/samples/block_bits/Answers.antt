-- `block_bits` meets its contract: the bits are folded one by one.
-- Assumes nothing.
use Rattle.std.proofs.Common.{bit_or, rules, tests}
use Rattle.std.proofs.lemmas.Iterator.{YieldsList-from_slice}
use Rattle.std.proofs.lemmas.Iterator.Consumers.{fold_from_yields_List}
use Rattle.list_checks.proofs.samples.block_bits.Goals as goal

pub returns : goal.returns
returns c =
    fold_from_yields_List _ bit_or 0 c.fold.result c.fold.ensures.ran (YieldsList-from_slice c.args.block.now cc)
    (λ a x b q k. search (rules, tests))
