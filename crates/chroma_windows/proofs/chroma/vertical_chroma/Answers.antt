-- `vertical_chroma` meets its contract. The loop's invariant: the first j lines are filtered, and the others are as
-- they were.
-- Assumes nothing.
use mathlib.Core.Path.{◌≡◌}
use native.Mathlib.Omega.{arith}
use Rattle.chroma_windows.proofs.Pairs.{chroma_more}
use Rattle.chroma_windows.proofs.chroma.vertical_chroma.Goals as goal

pub loop-j-preserved : goal.loop-j-preserved
loop-j-preserved c =
    chroma_more _ _ _ c.requires.strides c.args.s.now c.loop-j.s _ _ (omega arith) c.loop-j.invariant _
    c.filtered_chroma-l.ensures c.put_pair.ensures

pub returns : goal.returns
returns c =
    let e : c.loop-j.j ≡ 4 = omega arith in
    rw e at c.loop-j.invariant
