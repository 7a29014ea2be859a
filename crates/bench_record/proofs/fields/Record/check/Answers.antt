-- `check` meets its contract: a check that applies decides, and one that does not leaves the answer to the rest.
-- Assumes nothing.
use Prim.Native.Nat.{ℕ, ◌≤◌}
use mathlib.Core.Path.{◌≡◌, sym, ◌∙◌}
use mathlib.Core.List.{List}
use Rattle.bench_record.specs.declared.fields.Head.{Head}
use Rattle.bench_record.specs.Refusal.{refusal_of}
use Rattle.bench_record.proofs.Refused.{after_depth, after_offsets, after_others}
use Rattle.bench_record.proofs.Refused.{whole, applies, passes, above_largest, depth_good}
use Rattle.bench_record.proofs.fields.Record.check.Goals as goal
use Rattle.bench_record.proofs.fields.Record.check.Goals.{Else-depth_bad, Else-offsets_bad, Else-others_bad}

depth-passed : (c : Else-depth_bad) → let bytes : Head =
    c.head-h.result in
    let given : List ℕ =
    c.args.self.bytes.now in
    after_depth bytes given ≡ refusal_of given
depth-passed c =
    passes 3 _ (whole _ c.head-h.ensures) c.depth_bad.ensures c.if-depth_bad.false

offsets-passed : (c : Else-offsets_bad) → let bytes : Head =
    c.head-h.result in
    let given : List ℕ =
    c.args.self.bytes.now in
    after_offsets bytes given ≡ refusal_of given
offsets-passed c =
    let bytes : Head =
    c.head-h.result in
    let given : List ℕ =
    c.args.self.bytes.now in
    let depth-passed : after_depth bytes given ≡ refusal_of given =
    passes 3 _ (whole _ c.head-h.ensures) c.depth_bad.ensures c.if-depth_bad.false in
    passes 7 _ depth-passed c.offsets_bad.ensures c.if-offsets_bad.false

others-passed : (c : Else-others_bad) → let bytes : Head =
    c.head-h.result in
    let given : List ℕ =
    c.args.self.bytes.now in
    after_others bytes given ≡ refusal_of given
others-passed c =
    let bytes : Head =
    c.head-h.result in
    let given : List ℕ =
    c.args.self.bytes.now in
    let depth-passed : after_depth bytes given ≡ refusal_of given =
    passes 3 _ (whole _ c.head-h.ensures) c.depth_bad.ensures c.if-depth_bad.false in
    let offsets-passed : after_offsets bytes given ≡ refusal_of given =
    passes 7 _ depth-passed c.offsets_bad.ensures c.if-offsets_bad.false in
    passes 9 _ offsets-passed c.others_bad.ensures c.if-others_bad.false

-- the depth of a record that passed the first check
in_range : (c : Else-depth_bad) → let bytes : Head =
    c.head-h.result in
    (8 ≤ bytes.depth) × (bytes.depth ≤ 16)
in_range c =
    let bytes : Head =
    c.head-h.result in
    depth_good bytes.depth (sym c.depth_bad.ensures ∙ c.if-depth_bad.false)

pub returns-then-depth_bad : goal.returns-then-depth_bad
returns-then-depth_bad c =
    applies 3 _ (whole _ c.head-h.ensures) c.depth_bad.ensures c.if-depth_bad.true

pub returns-then-offsets_bad : goal.returns-then-offsets_bad
returns-then-offsets_bad c =
    let passed = depth-passed (goal.at.returns-then-offsets_bad c).Else-depth_bad in
    applies 7 _ passed c.offsets_bad.ensures c.if-offsets_bad.true

pub others_bad-requires : goal.others_bad-requires
others_bad-requires c =
    (in_range (goal.at.others_bad-requires c).Else-depth_bad)

pub returns-then-others_bad : goal.returns-then-others_bad
returns-then-others_bad c =
    let passed = offsets-passed (goal.at.returns-then-others_bad c).Else-offsets_bad in
    applies 9 _ passed c.others_bad.ensures c.if-others_bad.true

pub largest_at-requires : goal.largest_at-requires
largest_at-requires c =
    (in_range (goal.at.largest_at-requires c).Else-depth_bad).1

pub returns-then-samples_above : goal.returns-then-samples_above
returns-then-samples_above c =
    let flag = above_largest _ c.largest_at.ensures c.samples_above.ensures in
    applies 10 0 (others-passed (goal.at.returns-then-samples_above c).Else-others_bad) flag c.if-samples_above.true

pub returns : goal.returns
returns c =
    let flag = above_largest _ c.largest_at.ensures c.samples_above.ensures in
    passes 10 0 (others-passed (goal.at.returns c).Else-others_bad) flag c.if-samples_above.false
