-- `length_of` meets its contract: its tests are the definition's, in order.
-- Assumes nothing.
use mathlib.Core.Path.{refl}
use borrow.Author.Tests.{eq-eqb, ne_eqb}
use Rattle.tile_run.specs.CutLists.{length_of}
use Rattle.tile_run.proofs.cut_lists.length_of.Goals as goal

pub returns-then-wrong-list : goal.returns-then-wrong-list
unfolding length_of
returns-then-wrong-list c =
    rw (eq-eqb _ _ c.if-wrong-list.true, c.one_off.ensures) refl

pub returns-then-wrong-list-2 : goal.returns-then-wrong-list-2
unfolding length_of
returns-then-wrong-list-2 c =
    rw (ne_eqb _ _ c.if-wrong-list.false, eq-eqb _ _ c.if-wrong-list-2.true, c.min.ensures) refl

pub returns : goal.returns
unfolding length_of
returns c =
    rw (ne_eqb _ _ c.if-wrong-list.false, ne_eqb _ _ c.if-wrong-list-2.false) refl
