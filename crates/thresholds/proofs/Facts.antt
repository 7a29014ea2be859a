-- The definitions at biased naturals, in naturals: what the code's numbers put together.
use Prim.Native.Nat.{ℕ, ◌+◌, ◌*◌, ◌-◌, ◌/◌, ◌^◌, ◌≤◌, ◌<◌, min}
use mathlib.Core.Path.{◌≡◌, sym, ◌∙◌, ap}
use mathlib.Core.Bool.{cond}
use mathlib.Core.Logic.{◌⊎◌, inl, inr}
use native.Mathlib.Omega.{arith}
use native.Mathlib.Nat.{mul-le-mul}
use lib.Dec.{ltb}
use lib.ListN.{get_or}
use lib.Pow.{pow_mono}
use lib.IntN.{ℤ, pos}
use lib.Signed.{◌≤ℤ◌}
use borrow.Author.Tests.{lt-ltb, le-ltb, eq-eqb, ne_eqb}
use Rattle.ints.specs.Int.{◌⊖◌, ◌⊞◌, ◌⊟◌, neg, lt, clip3, nat_of}
use Rattle.ints.proofs.Bounds.{most_out, most_in, low_out, low_in, by_diffs}
use Rattle.ints.proofs.Laws.{
  diffs,
  diff_eq,
  shr_diff,
  pos_diff,
  nat_diff,
  plus_diff,
  lt-pos,
  pos-lt,
  either,
  clip_index_is,
}
use Rattle.thresholds.specs.Tables.{BETA, TC, QPC}
use Rattle.thresholds.specs.Luma.{average_qp, beta_index, tc_index, scaled, luma_beta}
use Rattle.thresholds.specs.Chroma.{table_qpc, chroma_qp, chroma_tc}

-- ---- indices

-- the floor of half the sum of two QPs, of any two; and of bytes that are 64 more
pub average_diff : (a b c d : ℕ) → average_qp (a ⊖ b) (c ⊖ d) ≡ ((a + c + 1 + (b + d)) / 2) ⊖ (b + d)
unfolding average_qp
average_diff a b c d = simp diffs (shr_diff (b + d) 1 _ _ (omega arith) ∙ diff_eq _ _ _ _ (omega arith))

pub average_is : (p q : ℕ) → ((p + q + 1) / 2) ⊖ 64 ≡ average_qp (p ⊖ 64) (q ⊖ 64)
average_is p q = sym (average_diff p 64 q 64 ∙ diff_eq _ _ _ _ (omega arith))

-- Clip3(0, m, z) where z is e - f
clipped : (m e f : ℕ) {z : ℤ} → z ≡ e ⊖ f → nat_of (clip3 (pos 0) (pos m) z) ≡ min m (e - f)
clipped m e f h = ap (λ (v : ℤ). nat_of (clip3 (pos 0) (pos m) v)) h ∙ clip_index_is m e f

beta_is : (a o : ℕ) → beta_index (a ⊖ 64) (o ⊖ 6) ≡ min 51 (a + 2 * o - 76)
unfolding beta_index
beta_is a o = clipped 51 _ 76 (simp diffs (diff_eq _ _ _ _ (omega arith)))

-- for a QP that is held b more, and a slice's offset that is held e more
pub tc_is : (b a s e o : ℕ) → tc_index (a ⊖ b) (pos s) (o ⊖ e) ≡ min 53 (a + 2 * s + 2 * o - (b + 2 + 2 * e))
unfolding tc_index
tc_is b a s e o = clipped 53 _ (b + 2 + 2 * e) (simp diffs (diff_eq _ _ _ _ (omega arith)))

-- a table's value at depth 16 at most fits 16 bits
pub scaled_small : {d v : ℕ} → d ≤ 16 → v ≤ 64 → scaled d v < 65536
unfolding scaled
scaled_small {d} {v} hd hv =
    let p : 2 ^ (d - 8) ≤ 2 ^ 8 = pow_mono {j = 8} (omega arith) in
    let m : v * 2 ^ (d - 8) ≤ 64 * 2 ^ 8 = mul-le-mul hv p in
    omega arith

-- ---- the bounds of two QPs are those of their average

pub average_most : (m : ℕ) (p q : ℤ) → p ≤ℤ pos m → q ≤ℤ pos m → average_qp p q ≤ℤ pos m
average_most m =
    by_diffs (λ p q. p ≤ℤ pos m → q ≤ℤ pos m → average_qp p q ≤ℤ pos m)
    (λ a b c d hp hq. rw average_diff (most_in m _ (b + d) (omega (arith, most_out m a b hp, most_out m c d hq))))

pub average_least : (m : ℕ) (p q : ℤ) → neg (pos m) ≤ℤ p → neg (pos m) ≤ℤ q → neg (pos m) ≤ℤ average_qp p q
average_least m =
    by_diffs (λ p q. neg (pos m) ≤ℤ p → neg (pos m) ≤ℤ q → neg (pos m) ≤ℤ average_qp p q)
    (λ a b c d hp hq. rw average_diff (low_in m _ (b + d) (omega (arith, low_out m a b hp, low_out m c d hq))))

-- ---- the chroma QP, held 76 more

pub table_low : {i : ℕ} → i < 106 → i ⊖ 76 ≡ table_qpc (i ⊖ 76)
unfolding table_qpc
table_low {i} h = simp (lt-pos, lt-ltb i 106 h)

-- for an index that is held b more
pub table_high : (b : ℕ) {i : ℕ} → 43 + b < i → (i - 6) ⊖ b ≡ table_qpc (i ⊖ b)
unfolding table_qpc
table_high b {i} h =
    simp (lt-pos, pos-lt, le-ltb i (30 + b) (omega arith), lt-ltb (43 + b) i h)
    (simp diffs (diff_eq _ _ _ _ (omega arith)))

pub table_row : {i r : ℕ} → 106 ≤ i → i ≤ 119 → r ≡ get_or QPC (i - 106) 0 → (r + 76) ⊖ 76 ≡ table_qpc (i ⊖ 76)
unfolding table_qpc
table_row {i} {r} l h e =
    let n : nat_of (i ⊖ 76 ⊟ pos 30) ≡ i - 106 = simp (diffs, nat_diff) (omega arith) in
    simp (lt-pos, pos-lt, le-ltb i 106 l, le-ltb 119 i h, n) (simp pos_diff (diff_eq _ _ _ _ (omega arith)))

pub ruleset qpc_ranges = (table_low, table_high, table_row)

pub qpc_table : {f : ℕ} (i r : ℕ) → f ≡ 1 → r ⊖ 76 ≡ table_qpc (i ⊖ 76) → r ⊖ 76 ≡ chroma_qp f (i ⊖ 76)
unfolding chroma_qp
qpc_table {f} i r e er = simp (eq-eqb f 1 e) er

at_51 : (k : ℕ) → min k 127 ⊖ 76 ≡ cond (lt (k ⊖ 76) (pos 51)) (k ⊖ 76) (pos 51)
at_51 k = simp lt-pos (go (either k 127))
  where
    go : (k < 127) ⊎ (127 ≤ k) → min k 127 ⊖ 76 ≡ cond (ltb k 127) (k ⊖ 76) (pos 51)
    go (inl p) = simp (lt-ltb k 127 p) (diff_eq _ _ _ _ (omega arith))
    go (inr p) = simp (le-ltb k 127 p, pos_diff) (diff_eq _ _ _ _ (omega arith))

pub qpc_other : {f r : ℕ} (i : ℕ) → (f ≡ 1 → ⊥) → r ≡ min i 127 → r ⊖ 76 ≡ chroma_qp f (i ⊖ 76)
unfolding chroma_qp
qpc_other {f} i n er = simp (ne_eqb f 1 n) (ap (λ (m : ℕ). m ⊖ 76) er ∙ at_51 i)

-- ---- the thresholds, of a clipped index and its row

pub beta_made : (d a o : ℕ) {q v r : ℕ} → q ≡ min 51 (a + 2 * o - 76) → v ≡ get_or BETA q 0 → r ≡ scaled d v
    → r ≡ luma_beta d (a ⊖ 64) (o ⊖ 6)
unfolding luma_beta
beta_made d a o eq ev er = er ∙ ap (scaled d) (ev ∙ ap (λ (k : ℕ). get_or BETA k 0) (eq ∙ sym (beta_is a o)))

pub chroma_made : (f d a p o i : ℕ) {q v r : ℕ} → i ⊖ 76 ≡ chroma_qp f ((a + p) ⊖ 76)
    → q ≡ min 53 (i + 4 + 2 * o - 90) → v ≡ get_or TC q 0 → r ≡ scaled d v
    → r ≡ chroma_tc f d (a ⊖ 64) (p ⊖ 12) (o ⊖ 6)
unfolding chroma_tc
chroma_made f d a p o i {q} ei eq ev er =
    let qp : i ⊖ 76 ≡ chroma_qp f ((a ⊖ 64) ⊞ (p ⊖ 12)) = ei ∙ ap (chroma_qp f) (sym (plus_diff a 64 p 12)) in
    let index : q ≡ tc_index (chroma_qp f ((a ⊖ 64) ⊞ (p ⊖ 12))) (pos 2) (o ⊖ 6) =
    eq ∙ sym (tc_is 76 i 2 6 o) ∙ ap (λ (z : ℤ). tc_index z (pos 2) (o ⊖ 6)) qp in
    er ∙ ap (scaled d) (ev ∙ ap (λ (k : ℕ). get_or TC k 0) index)
