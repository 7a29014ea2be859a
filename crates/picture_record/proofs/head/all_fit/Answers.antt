-- `all_fit` meets its contract: the first k lengths are within their limits.
-- Assumes nothing.
use mathlib.Core.Path.{sym}
use native.Mathlib.Omega.{arith}
use Rattle.picture_record.proofs.Limits.{none_yet, one_more, past}
use Rattle.picture_record.proofs.head.all_fit.Goals as goal

pub loop-k-init : goal.loop-k-init
loop-k-init c = none_yet _ 0

pub returns-then-limit_of-word : goal.returns-then-limit_of-word
returns-then-limit_of-word c =
    sym
    (past c.args.head.now c.loop-k.k 10 (omega arith)
    (omega (arith, c.if-limit_of-word.true, c.word.ensures, c.limit_of.ensures)))

pub loop-k-preserved : goal.loop-k-preserved
loop-k-preserved c =
    one_more c.args.head.now c.loop-k.k c.loop-k.invariant
    (omega (arith, c.if-limit_of-word.false, c.word.ensures, c.limit_of.ensures))
