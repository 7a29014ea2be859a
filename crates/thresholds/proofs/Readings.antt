-- The chroma threshold read two ways: without a clip of the index, as clause 8.7.2.5.5 and the filter have it
-- (specs/Chroma), and with the clip of document 01 and the Rust (specs/Clipped). They part in 4:2:0 above index 57 and
-- nowhere else (document 02, C-17; docs/DIFFERENCES.md, 1).
use Prim.Native.Nat.{ℕ, ◌+◌, ◌*◌, ◌-◌, ◌≤◌, ◌<◌, min, max}
use mathlib.Core.Path.{◌≡◌, refl, sym, ◌∙◌, ap}
use mathlib.Core.Bool.{Bool, true, false, cond}
use mathlib.Core.Logic.{◌⊎◌, inl, inr}
use native.Mathlib.Omega.{arith}
use lib.Dec.{eqb}
use lib.ListN.{get_or}
use lib.IntN.{ℤ, pos, negsuc}
use lib.Signed.{◌≤ℤ◌}
use borrow.Author.Tests.{lt-ltb, le-ltb, ne_eqb}
use Rattle.ints.specs.Int.{◌⊖◌, ◌⊞◌, ◌⊟◌, ◌⊠◌, neg, lt, clip3, nat_of}
use Rattle.ints.proofs.Bounds.{most_out, least_out, by_diffs}
use Rattle.ints.proofs.Laws.{either, diffs, diff_eq, by_diff, lt-pos, clip_diff}
use Rattle.thresholds.specs.Tables.{TC, QPC}
use Rattle.thresholds.specs.Luma.{tc_index, scaled}
use Rattle.thresholds.specs.Chroma.{table_qpc, chroma_qp, chroma_tc}
use Rattle.thresholds.specs.Clipped.{clipped_index, clipped_chroma_qp, clipped_chroma_tc}
use Rattle.thresholds.proofs.Rows.{tc_none}
use Rattle.thresholds.proofs.Facts.{tc_is, table_high}

-- ---- below zero: every index is its own chroma QP, and tC is 0

same : {A : Type 0} (t : Bool) (x : A) → cond t x x ≡ x
same true x = refl
same false x = refl

low_qp : (f a b : ℕ) → a ≤ b → chroma_qp f (a ⊖ b) ≡ a ⊖ b
unfolding chroma_qp table_qpc
low_qp f a b h =
    simp (lt-pos, lt-ltb a (30 + b) (omega arith), lt-ltb a (51 + b) (omega arith)) (same (eqb f 1) (a ⊖ b))

-- the row of TC that a chroma QP reads
abbrev row : ℤ → ℤ → ℕ
row qp t = get_or TC (tc_index qp (pos 2) t) 0

low_row : (f a b : ℕ) (t : ℤ) → a ≤ b → t ≤ℤ pos 6 → row (chroma_qp f (a ⊖ b)) t ≡ 0
low_row f a b t h =
    by_diff (λ t. t ≤ℤ pos 6 → row (chroma_qp f (a ⊖ b)) t ≡ 0)
    (λ c e ht.
    let most : c ≤ 6 + e = most_out 6 c e ht in
    ap (λ (qp : ℤ). row qp (c ⊖ e)) (low_qp f a b h)
    ∙ ap (λ (q : ℕ). get_or TC q 0) (tc_is b a 2 e c)
    ∙ tc_none _ (omega arith))
    t

-- ---- above 50 in formats 2 and 3: the chroma QP is 51

high_qp : (f a b : ℕ) → (f ≡ 1 → ⊥) → 51 + b ≤ a → chroma_qp f (a ⊖ b) ≡ pos 51
unfolding chroma_qp
high_qp f a b n h = simp (ne_eqb f 1 n, lt-pos, le-ltb a (51 + b) h)

-- ---- the two readings

clip_is : (d a b : ℕ) → let k : ℕ = 6 * (d - 8) in clipped_index d (a ⊖ b) ≡ max b (min (57 + k + b) (a + k)) ⊖ (k + b)
unfolding clipped_index
clip_is d a b =
    let k : ℕ = 6 * (d - 8) in
    simp diffs (clip_diff 0 k 57 0 a b (omega arith) ∙ diff_eq _ _ _ _ (omega arith))

same_row : (f d a b : ℕ) (t : ℤ) → t ≤ℤ pos 6 → (f ≡ 1 → (a ⊖ b) ≤ℤ pos 57)
    → row (chroma_qp f (a ⊖ b)) t ≡ row (clipped_chroma_qp f d (a ⊖ b)) t
unfolding clipped_chroma_qp
same_row f d a b t ht hi = go (either (a + k) b) (either (57 + b) a)
  where
    k : ℕ
    k = 6 * (d - 8)

    to : (c e : ℕ) → max b (min (57 + k + b) (a + k)) + e ≡ c + (k + b) → clipped_index d (a ⊖ b) ≡ c ⊖ e
    to c e h = clip_is d a b ∙ diff_eq _ _ c e h

    read : ℤ → ℕ
    read i = row (chroma_qp f i) t

    go : (a + k < b) ⊎ (b ≤ a + k) → (57 + b < a) ⊎ (a ≤ 57 + b) → read (a ⊖ b) ≡ read (clipped_index d (a ⊖ b))
    go (inl p) _ =
        low_row f a b t (omega arith) ht
        ∙ sym (ap read (to 0 k (omega arith)) ∙ low_row f 0 k t (omega arith) ht)
    go (inr p) (inl q) =
        let other : f ≡ 1 → ⊥ = λ e. omega (arith, most_out 57 a b (hi e)) in
        ap (λ (qp : ℤ). row qp t)
        (high_qp f a b other (omega arith)
        ∙ sym (ap (chroma_qp f) (to 57 0 (omega arith)) ∙ high_qp f 57 0 other (omega arith)))
    go (inr p) (inr q) = sym (ap read (to a b (omega arith)))

-- The two give one tC at every depth, average QP and Cb or Cr offset, and every tc offset up to its largest, 6; but in
-- format 1 only where the index is at most 57. So the clip moved nothing below zero, nor in formats 2 and 3.
pub same_tc : (format depth : ℕ) (qPL cQpPicOffset tcOffset : ℤ)
    → tcOffset ≤ℤ pos 6
    → (format ≡ 1 → (qPL ⊞ cQpPicOffset) ≤ℤ pos 57)
    → chroma_tc format depth qPL cQpPicOffset tcOffset ≡ clipped_chroma_tc format depth qPL cQpPicOffset tcOffset
unfolding chroma_tc clipped_chroma_tc
same_tc f d qPL off t ht hi =
    ap (scaled d)
    (by_diff
    (λ i. (f ≡ 1 → i ≤ℤ pos 57) → row (chroma_qp f i) t ≡ row (clipped_chroma_qp f d i) t)
    (λ a b. same_row f d a b t ht)
    (qPL ⊞ off)
    hi)

-- At 57 and above, in format 1, both read the last row of TC where the tc offset is not below 0: there they give one tC
-- again.
last_row : (a b c e : ℕ) → 57 + b ≤ a → e ≤ c → row (chroma_qp 1 (a ⊖ b)) (c ⊖ e) ≡ get_or TC 53 0
unfolding chroma_qp
last_row a b c e h t =
    ap (λ (qp : ℤ). row qp (c ⊖ e)) (sym (table_high b (omega arith)))
    ∙ ap (λ (q : ℕ). get_or TC q 0) (tc_is b (a - 6) 2 e c ∙ omega arith)

clip_high : (d a b : ℕ) → 57 + b ≤ a → clipped_index d (a ⊖ b) ≡ 57 ⊖ 0
clip_high d a b h = clip_is d a b ∙ diff_eq _ _ 57 0 (omega arith)

pub same_last : (depth : ℕ) (qPL cQpPicOffset tcOffset : ℤ)
    → pos 57 ≤ℤ (qPL ⊞ cQpPicOffset) → pos 0 ≤ℤ tcOffset
    → chroma_tc 1 depth qPL cQpPicOffset tcOffset ≡ clipped_chroma_tc 1 depth qPL cQpPicOffset tcOffset
unfolding chroma_tc clipped_chroma_tc clipped_chroma_qp
same_last d qPL off t hi ht =
    ap (scaled d)
    (by_diffs
    (λ i t. pos 57 ≤ℤ i → pos 0 ≤ℤ t → row (chroma_qp 1 i) t ≡ row (chroma_qp 1 (clipped_index d i)) t)
    (λ a b c e hi ht.
    let high : 57 + b ≤ a = least_out 57 a b hi in
    let tc : e ≤ c = omega (arith, least_out 0 c e ht) in
    last_row a b c e high tc
    ∙ sym (ap (λ (i : ℤ). row (chroma_qp 1 i) (c ⊖ e)) (clip_high d a b high) ∙ last_row 57 0 c e (omega arith) tc))
    (qPL ⊞ off)
    t
    hi
    ht)

-- ---- where they part: format 1, the indices from 57, the last that both read alike, to 63, the largest that can occur

-- the chroma QP: 51 to 57 without the clip, 51 with it
pub parting_qps :
    (chroma_qp 1 (pos 57) ≡ pos 51) × (clipped_chroma_qp 1 8 (pos 57) ≡ pos 51)
    × (chroma_qp 1 (pos 58) ≡ pos 52) × (clipped_chroma_qp 1 8 (pos 58) ≡ pos 51)
    × (chroma_qp 1 (pos 59) ≡ pos 53) × (clipped_chroma_qp 1 8 (pos 59) ≡ pos 51)
    × (chroma_qp 1 (pos 60) ≡ pos 54) × (clipped_chroma_qp 1 8 (pos 60) ≡ pos 51)
    × (chroma_qp 1 (pos 61) ≡ pos 55) × (clipped_chroma_qp 1 8 (pos 61) ≡ pos 51)
    × (chroma_qp 1 (pos 62) ≡ pos 56) × (clipped_chroma_qp 1 8 (pos 62) ≡ pos 51)
    × (chroma_qp 1 (pos 63) ≡ pos 57) × (clipped_chroma_qp 1 8 (pos 63) ≡ pos 51)
unfolding clipped_chroma_qp clipped_index chroma_qp table_qpc clip3 lt neg ◌⊟◌
parting_qps = (refl, refl, refl, refl, refl, refl, refl, refl, refl, refl, refl, refl, refl, refl)

-- tC at QP 51, tc div2 -6 and depth 8, for the Cb or Cr offsets 6 to 12: rows 41 to 47 without the clip, row 41 with it
pub parting_tcs :
    (chroma_tc 1 8 (pos 51) (pos 6) (negsuc 5) ≡ 6) × (clipped_chroma_tc 1 8 (pos 51) (pos 6) (negsuc 5) ≡ 6)
    × (chroma_tc 1 8 (pos 51) (pos 7) (negsuc 5) ≡ 7) × (clipped_chroma_tc 1 8 (pos 51) (pos 7) (negsuc 5) ≡ 6)
    × (chroma_tc 1 8 (pos 51) (pos 8) (negsuc 5) ≡ 8) × (clipped_chroma_tc 1 8 (pos 51) (pos 8) (negsuc 5) ≡ 6)
    × (chroma_tc 1 8 (pos 51) (pos 9) (negsuc 5) ≡ 9) × (clipped_chroma_tc 1 8 (pos 51) (pos 9) (negsuc 5) ≡ 6)
    × (chroma_tc 1 8 (pos 51) (pos 10) (negsuc 5) ≡ 10) × (clipped_chroma_tc 1 8 (pos 51) (pos 10) (negsuc 5) ≡ 6)
    × (chroma_tc 1 8 (pos 51) (pos 11) (negsuc 5) ≡ 11) × (clipped_chroma_tc 1 8 (pos 51) (pos 11) (negsuc 5) ≡ 6)
    × (chroma_tc 1 8 (pos 51) (pos 12) (negsuc 5) ≡ 13) × (clipped_chroma_tc 1 8 (pos 51) (pos 12) (negsuc 5) ≡ 6)
unfolding chroma_tc clipped_chroma_tc clipped_chroma_qp clipped_index chroma_qp table_qpc tc_index scaled TC QPC
    nat_of clip3 lt neg ◌⊞◌ ◌⊟◌ ◌⊠◌
parting_tcs = (refl, refl, refl, refl, refl, refl, refl, refl, refl, refl, refl, refl, refl, refl)
