-- `compare_tile` meets its contract: no such tile, a list of another length, or the count; and what the lists hold
-- after it.
-- Assumes nothing.
use mathlib.Core.Path.{sym, ap, ◌∙◌}
use Rattle.std.specs.Prelude.{Option, option_map}
use Rattle.picture.specs.Lent.{picture_lent, planes_lent}
use Rattle.picture.specs.Picture.{Picture, Planes}
use Rattle.tile_parts.specs.declared.Part as Code
use Rattle.tile_parts.specs.Parts.{part_of}
use Rattle.tile_check.specs.Answer.{Scratch}
use Rattle.tile_check.specs.Lent.{scratch_of}
use Rattle.tile_check.proofs.Compared.{
  bad_lengths_lem,
  compare_ready,
  count_is,
  no_tile_lem,
  own_small,
  part_small,
}
use Rattle.tile_check.proofs.driver.compare_tile.Goals as goal
use Rattle.tile_check.proofs.driver.compare_tile.Goals.{Start}

-- the picture, its outputs and the cut's lists at the call
abbrev picture : Start → Picture
picture c = picture_lent c.args.picture.now

abbrev out : Start → Planes
out c = planes_lent c.args.out.now

abbrev lists : Start → Scratch
lists c =
    let a = c.args in
    scratch_of a.cuty.now a.cutcb.now a.cutcr.now a.cutcells.now a.owny.now a.owncb.now a.owncr.now

pub returns-in_default-clause-answer : goal.returns-in_default-clause-answer
returns-in_default-clause-answer c =
    let s = (goal.at.returns-in_default-clause-answer c).Start in
    let none = ap (λ (o : Option Code.Part). option_map part_of o) (sym c.in_default.is) in
    (no_tile_lem (picture s) c.args.at c.requires (none ∙ c.find_luma_part.ensures) (lists s) (out s)).0

pub returns-in_default-clause-scratch : goal.returns-in_default-clause-scratch
returns-in_default-clause-scratch c =
    let s = (goal.at.returns-in_default-clause-scratch c).Start in
    let none = ap (λ (o : Option Code.Part). option_map part_of o) (sym c.in_default.is) in
    (no_tile_lem (picture s) c.args.at c.requires (none ∙ c.find_luma_part.ensures) (lists s) (out s)).1

pub alone-requires : goal.alone-requires
alone-requires c =
    part_small (picture (goal.at.alone-requires c).Start) c.args.at c.requires c.in-Some.ensures

pub bad_scratch-requires : goal.bad_scratch-requires
bad_scratch-requires c =
    own_small (picture (goal.at.bad_scratch-requires c).Start) c.args.at c.requires c.in-Some.ensures c.alone.ensures

pub returns-then-bad_scratch-clause-answer : goal.returns-then-bad_scratch-clause-answer
returns-then-bad_scratch-clause-answer c =
    let s = (goal.at.returns-then-bad_scratch-clause-answer c).Start in
    (bad_lengths_lem (picture s) c.args.at c.requires c.in-Some.ensures c.alone.ensures (lists s)
    c.bad_scratch.ensures c.if-bad_scratch.true (out s)).0

pub returns-then-bad_scratch-clause-scratch : goal.returns-then-bad_scratch-clause-scratch
returns-then-bad_scratch-clause-scratch c =
    let s = (goal.at.returns-then-bad_scratch-clause-scratch c).Start in
    (bad_lengths_lem (picture s) c.args.at c.requires c.in-Some.ensures c.alone.ensures (lists s)
    c.bad_scratch.ensures c.if-bad_scratch.true (out s)).1

pub compare_cut-requires : goal.compare_cut-requires
compare_cut-requires c =
    let s = (goal.at.compare_cut-requires c).Start in
    compare_ready (picture s) c.args.at c.requires c.in-Some.ensures c.alone.ensures (lists s) c.bad_scratch.ensures
    c.if-bad_scratch.false

pub returns-clause-answer : goal.returns-clause-answer
returns-clause-answer c =
    let s = (goal.at.returns-clause-answer c).Start in
    (count_is (picture s) c.args.at c.requires c.in-Some.ensures c.alone.ensures (lists s) c.bad_scratch.ensures
    c.if-bad_scratch.false (out s) c.compare_cut.ensures.count c.compare_cut.ensures.scratch).0

pub returns-clause-scratch : goal.returns-clause-scratch
returns-clause-scratch c =
    let s = (goal.at.returns-clause-scratch c).Start in
    (count_is (picture s) c.args.at c.requires c.in-Some.ensures c.alone.ensures (lists s) c.bad_scratch.ensures
    c.if-bad_scratch.false (out s) c.compare_cut.ensures.count c.compare_cut.ensures.scratch).1
