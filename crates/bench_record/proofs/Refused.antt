-- The number of a refusal, check by check; and what a record that is not refused has.
-- Assumes nothing.
use Prim.Native.Nat.{ℕ, ◌≤◌, ◌<◌}
use mathlib.Core.Path.{◌≡◌, refl, ◌∙◌, ap}
use mathlib.Core.Bool.{Bool, true, false, cond, ◌||◌}
use mathlib.Core.List.{List}
use native.Mathlib.Omega.{arith}
use lib.Dec.{ltb}
use borrow.Author.Tests.{ltb-false}
use Rattle.ints.specs.Sample.{largest_at}
use Rattle.bench_record.specs.declared.fields.Head.{Head}
use Rattle.bench_record.specs.Record.{head_of}
use Rattle.bench_record.specs.Refusal.{depth_bad, offsets_bad, qp_bad, others_bad, samples_above, refusal_of, InRange}

-- the answer after the check of the depth, of the offsets and of the other bytes
abbrev pub after_others : Head → List ℕ → ℕ
after_others h r = cond (samples_above (largest_at h.depth) r) 10 0

abbrev pub after_offsets : Head → List ℕ → ℕ
after_offsets h r = cond (others_bad h) 9 (after_others h r)

abbrev pub after_depth : Head → List ℕ → ℕ
after_depth h r = cond (offsets_bad h.beta h.tc) 7 (after_offsets h r)

pub whole : (r : List ℕ) {h : Head} → h ≡ head_of r → cond (depth_bad h.depth) 3 (after_depth h r) ≡ refusal_of r
unfolding refusal_of
whole r e = rw e refl

-- a check that applies decides; one that does not leaves the answer to the rest
pub applies : {f t : Bool} (n m : ℕ) {k : ℕ} → cond t n m ≡ k → f ≡ t → f ≡ true → n ≡ k
applies n m e et y = rw (← et, y) at e

pub passes : {f t : Bool} (n m : ℕ) {k : ℕ} → cond t n m ≡ k → f ≡ t → f ≡ false → m ≡ k
passes n m e et y = rw (← et, y) at e

-- the flag of the samples, by the largest one
pub above_largest : (r : List ℕ) {m n : ℕ} {f : Bool} → m ≡ n → f ≡ samples_above m r → f ≡ samples_above n r
above_largest r em ef = ef ∙ ap (λ (n : ℕ). samples_above n r) em

neither : (s t : Bool) → (s || t) ≡ false → (s ≡ false) × (t ≡ false)
neither true t e = absurd (let z : ◌≡◌ {A = ℕ} 0 1 = cc in omega arith)
neither false t e = (refl, e)

pub depth_good : (d : ℕ) → depth_bad d ≡ false → (8 ≤ d) × (d ≤ 16)
depth_good d e =
    let f = neither (ltb d 8) (ltb 16 d) e in
    (ltb-false _ _ f.0, ltb-false _ _ f.1)

qp_good : (d n : ℕ) → qp_bad d n ≡ false → n ≤ 115
qp_good d n e = ltb-false _ _ (neither (ltb n _) (ltb 115 n) e).1

others_good : (h : Head) → others_bad h ≡ false → (h.bs ≤ 2) × (h.qpp ≤ 115) × (h.qpq ≤ 115)
unfolding others_bad
others_good h e =
    let all = (neither _ (ltb 0 h.zero7) e).0 in
    let three = (neither _ (ltb 0 h.zero6) all).0 in
    let qpq = neither _ (qp_bad h.depth h.qpq) three in
    let qpp = neither (ltb 2 h.bs) (qp_bad h.depth h.qpp) qpq.0 in
    (ltb-false _ _ qpp.0, qp_good h.depth h.qpp qpp.1, qp_good h.depth h.qpq qpq.1)

-- a check that does not apply, where the answer is 0
passed : (t : Bool) (k m : ℕ) → 0 < k → cond t k m ≡ 0 → (t ≡ false) × (m ≡ 0)
passed true k m h e = absurd (omega arith)
passed false k m h e = (refl, e)

-- a record that is not refused is in range
pub accepted : (r : List ℕ) → refusal_of r ≡ 0 → InRange (head_of r)
unfolding refusal_of
accepted r e =
    let h : Head = head_of r in
    let first = passed (depth_bad h.depth) 3 (after_depth h r) (omega arith) e in
    let second = passed (offsets_bad h.beta h.tc) 7 (after_offsets h r) (omega arith) first.1 in
    let third = passed (others_bad h) 9 (after_others h r) (omega arith) second.1 in
    let depth = depth_good h.depth first.0 in
    let offsets = neither (ltb 12 h.beta) (ltb 12 h.tc) second.0 in
    let others = others_good h third.0 in
    record {
      depth_least = depth.0;
      depth_most = depth.1;
      bs_most = others.0;
      qpp_most = others.1;
      qpq_most = others.2;
      beta_most = ltb-false _ _ offsets.0;
      tc_most = ltb-false _ _ offsets.1;
    }
