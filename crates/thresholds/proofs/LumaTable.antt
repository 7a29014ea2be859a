-- The table of the luma tc: one test that every entry passes, the clamp rule carried to each, and what a look gives.
-- And below its first row: a negative average has tC 0.
use Prim.Native.Nat.{ℕ, ◌+◌, ◌*◌, ◌-◌, ◌/◌, ◌%◌, ◌^◌, ◌≤◌, ◌<◌, min}
use mathlib.Core.Path.{◌≡◌, sym, ◌∙◌, ap}
use mathlib.Core.Bool.{true}
use mathlib.Core.List.{List}
use mathlib.Core.Logic.{◌⊎◌, inl, inr}
use native.Mathlib.Omega.{arith}
use lib.ListN.{length, get_or, get_or-eq_default}
use lib.IntN.{ℤ, pos}
use lib.Signed.{◌≤ℤ◌}
use borrow.Author.Tests.{eqb-true, ltb-true, lt-ltb}
use Rattle.ints.specs.Int.{◌⊖◌, lt}
use Rattle.ints.proofs.Bounds.{most_out, most_in, by_diffs}
use Rattle.ints.proofs.Laws.{either, pos_diff, diff_pos, by_diff, lt-pos}
use Rattle.thresholds.specs.Tables.{TC}
use Rattle.thresholds.specs.Luma.{average_qp, tc_index, scaled, luma_tc}
use Rattle.thresholds.specs.LumaTable.{tc_place, TcTable}
use Rattle.thresholds.proofs.Rows.{each, agrees, passes, tc_none}
use Rattle.thresholds.proofs.Facts.{tc_is, average_most}
use Rattle.thresholds.proofs.Most.{luma_tc_most}

-- ---- every entry

-- what belongs at place k: the row of TC at the clamped index of its average, bS and offset
abbrev pub entry_at : ℕ → ℕ
entry_at k = get_or TC (min 53 (k / 26 + 2 * (k / 13 % 2) + 2 * (k % 13) - 12)) 0

-- at depth 8 a row is not scaled
at_8 : (v : ℕ) → scaled 8 v ≡ v
unfolding scaled
at_8 v = omega arith

-- document 01's tc at depth 8, by the clamp rule in naturals
clamp_rule : (q s o : ℕ) → luma_tc 8 (pos q) (pos s) (o ⊖ 6) ≡ get_or TC (min 53 (q + 2 * s + 2 * o - 14)) 0
unfolding luma_tc
clamp_rule q s o =
    let index : tc_index (pos q) (pos s) (o ⊖ 6) ≡ min 53 (q + 2 * s + 2 * o - 14) =
    ap (λ (z : ℤ). tc_index z (pos s) (o ⊖ 6)) (pos_diff q) ∙ tc_is 0 q s 6 o in
    at_8 _ ∙ ap (λ (k : ℕ). get_or TC k 0) index

-- a list that passes the test at each of its 1,352 places is the table
pub table_made : (entries : List ℕ) → length entries ≡ 1352 → each (agrees entry_at) 0 entries ≡ true → TcTable entries
unfolding tc_place
table_made entries long test = record { long = long; entry = at }
  where
    at : (q s o : ℕ) → q ≤ 51 → 1 ≤ s → s ≤ 2 → o ≤ 12
        → get_or entries (26 * q + 13 * (s - 1) + o) 0 ≡ luma_tc 8 (pos q) (pos s) (o ⊖ 6)
    at q s o hq ls hs ho =
        let k : ℕ = 26 * q + 13 * (s - 1) + o in
        let passed = passes (agrees entry_at) entries test k (omega (arith, long)) in
        let average : k / 26 ≡ q = omega arith in
        let row : k / 13 % 2 ≡ s - 1 = let r : k / 13 ≡ 2 * q + (s - 1) = omega arith in omega arith in
        let offset : k % 13 ≡ o = omega arith in
        let index : min 53 (k / 26 + 2 * (k / 13 % 2) + 2 * (k % 13) - 12) ≡ min 53 (q + 2 * s + 2 * o - 14) =
        rw (average, row, offset) (omega arith) in
        eqb-true _ _ passed ∙ ap (λ (n : ℕ). get_or TC n 0) index ∙ sym (clamp_rule q s o)

-- every place below 1,352 is that of an average, a bS and an offset: the rule leaves no entry out
pub place_back : (k : ℕ) → tc_place (k / 26) (k / 13 % 2 + 1) (k % 13) ≡ k
unfolding tc_place
place_back k = let r : k / 26 ≡ k / 13 / 2 = omega arith in omega arith

-- ---- a look

-- at another depth an entry is scaled
at_depth : (d : ℕ) (z s o : ℤ) → scaled d (luma_tc 8 z s o) ≡ luma_tc d z s o
unfolding luma_tc
at_depth d z s o = ap (scaled d) (at_8 (get_or TC (tc_index z s o) 0))

-- no tC at depth 8 is above 24, and so no entry, at whatever place, above 64: no shift loses a bit of it
pub table_small : {entries : List ℕ} → TcTable entries → (k : ℕ) → get_or entries k 0 ≤ 64
table_small {entries} table k = go (either k 1352)
  where
    go : (k < 1352) ⊎ (1352 ≤ k) → get_or entries k 0 ≤ 64
    go (inl h) =
        let q : ℕ = k / 26 in
        let s : ℕ = k / 13 % 2 + 1 in
        let o : ℕ = k % 13 in
        let e = table.entry q s o (omega arith) (omega arith) (omega arith) (omega arith) in
        omega (arith, ap (λ (n : ℕ). get_or entries n 0) (place_back k), e, luma_tc_most 8 (pos q) (pos s) (o ⊖ 6))
    go (inr h) = omega (arith, get_or-eq_default entries 0 {n = k} (omega (arith, table.long)))

-- the entry that is read for an average, held 64 more, a bS and an offset, held 6 more
module _ {entries : List ℕ} (table : TcTable entries) (a s o : ℕ) (la : 64 ≤ a) (ha : a ≤ 115) (ls : 1 ≤ s) (hs : s ≤ 2)
    (ho : o ≤ 12) {v : ℕ} (ev : v ≡ get_or entries (26 * (a - 64) + 13 * (s - 1) + o) 0) where
  entry_is : v ≡ luma_tc 8 (a ⊖ 64) (pos s) (o ⊖ 6)
  unfolding tc_place
  entry_is =
      ev ∙ table.entry (a - 64) s o (omega arith) ls hs ho
      ∙ ap (λ (z : ℤ). luma_tc 8 z (pos s) (o ⊖ 6)) (sym (diff_pos a 64 la))

  pub looked_up : (d : ℕ) {r : ℕ} → r ≡ scaled d v → r ≡ luma_tc d (a ⊖ 64) (pos s) (o ⊖ 6)
  looked_up d er = er ∙ ap (scaled d) entry_is ∙ at_depth d (a ⊖ 64) (pos s) (o ⊖ 6)

-- ---- below the table

-- an average of 3 at the most gives 0 at every depth, for every bS that there is and every tc offset: its index is not
-- above 17
pub low_gives_0 : (depth bS : ℕ) (qPL offset : ℤ) → qPL ≤ℤ pos 3 → bS ≤ 2 → offset ≤ℤ pos 6
    → luma_tc depth qPL (pos bS) offset ≡ 0
unfolding luma_tc scaled
low_gives_0 d s qPL offset low hs ho =
    by_diffs
    (λ z t. z ≤ℤ pos 3 → t ≤ℤ pos 6 → get_or TC (tc_index z (pos s) t) 0 * 2 ^ (d - 8) ≡ 0)
    (λ a b c e low ho.
    let row : get_or TC (tc_index (a ⊖ b) (pos s) (c ⊖ e)) 0 ≡ 0 =
    ap (λ (k : ℕ). get_or TC k 0) (tc_is b a s e c) ∙ tc_none _ (omega (arith, most_out 3 a b low, most_out 6 c e ho))
    in
    ap (λ (v : ℕ). v * 2 ^ (d - 8)) row ∙ omega arith)
    qPL
    offset
    low
    ho

-- C-18: "A negative average always gives 0": whatever the depth, bS up to 2 and tc div2 up to 6
pub negative_gives_0 : (depth bS : ℕ) (qPL offset : ℤ) → lt qPL (pos 0) ≡ true → bS ≤ 2 → offset ≤ℤ pos 6
    → luma_tc depth qPL (pos bS) offset ≡ 0
negative_gives_0 d s qPL offset negative hs ho =
    low_gives_0 d s qPL offset
    (by_diff (λ z. lt z (pos 0) ≡ true → z ≤ℤ pos 3)
    (λ a b n. most_in 3 a b (omega (arith, ltb-true a (0 + b) (sym (lt-pos a b 0) ∙ n)))) qPL negative)
    hs
    ho

-- the same of an average that is held 64 more and an offset that is held 6 more
pub below_0 : (d a s o : ℕ) → a < 64 → s ≤ 2 → o ≤ 12 → 0 ≡ luma_tc d (a ⊖ 64) (pos s) (o ⊖ 6)
below_0 d a s o ha hs ho =
    sym (negative_gives_0 d s (a ⊖ 64) (o ⊖ 6) (lt-pos a 64 0 ∙ lt-ltb a 64 ha) hs (most_in 6 o 6 ho))

-- what a look into the table gives, and an average below it
pub ruleset tc_looked_up = (table_small, looked_up, below_0)

-- the byte of an average of two QPs that are 51 at the most
pub average_listed : (a p q : ℕ) → a ⊖ 64 ≡ average_qp (p ⊖ 64) (q ⊖ 64) → p ≤ 115 → q ≤ 115 → a ≤ 115
average_listed a p q e hp hq =
    most_out 51 a 64 (rw e (average_most 51 (p ⊖ 64) (q ⊖ 64) (most_in 51 p 64 hp) (most_in 51 q 64 hq)))
