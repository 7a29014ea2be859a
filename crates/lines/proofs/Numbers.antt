-- Number by number: what the code computes in naturals is what the definitions say over the integers.
use Prim.Native.Nat.{ℕ, ◌+◌, ◌*◌, ◌-◌, ◌/◌, ◌≤◌, ◌<◌}
use mathlib.Core.Path.{◌≡◌, refl, ◌∙◌, ap}
use mathlib.Core.Bool.{Bool, true, false}
use native.Mathlib.Omega.{arith}
use lib.IntN.{ℤ, pos}
use Rattle.ints.specs.Int.{◌⊞◌, ◌⊟◌, neg, ◌>>◌, clip3, nat_of}
use Rattle.ints.specs.Sample.{distance}
use Rattle.ints.proofs.Laws.{diffs, naturals, times-pos, diff_eq, gap_is, abs_diff, neg_diff, shr_diff}
use Rattle.ints.proofs.Laws.{clip_sym, clip_near, clip_unit}
use Rattle.lines.specs.declared.Line.{Line}
use Rattle.lines.specs.Chroma.{chroma_delta}
use Rattle.lines.specs.Code.{biased, near_n, d_sam_n, weak_delta_n, clip_delta_n, moved_n, side_delta_n, second_n}
use Rattle.lines.specs.Decision.{activity, d_sam}
use Rattle.lines.specs.Luma.{near, delta0, side_delta, clip1, second}

-- ---- the decision

pub activity_is : (a b c : ℕ) → activity (pos a) (pos b) (pos c) ≡ distance (a + c) (2 * b)
unfolding activity
activity_is a b c = simp (diffs, abs_diff) (omega arith)

pub dsam_is : (β tc dpq : ℕ) (l : Line) → d_sam β tc dpq l ≡ d_sam_n β tc dpq l.p3 l.p0 l.q0 l.q3
unfolding d_sam
dsam_is β tc dpq l = simp gap_is

-- ---- the strong filter

pub near_is : (t x n : ℕ) → nat_of (near (pos t) (pos x) (pos n)) ≡ near_n t x n
unfolding near nat_of
near_is t x n = simp times-pos (ap nat_of (clip_near x (2 * t) n))

-- ---- Δ, and a sample moved by it

pub delta_is : (p1 p0 q0 q1 : ℕ) → 9 * p0 + 3 * q1 ≤ 1048576
    → delta0 (pos p1) (pos p0) (pos q0) (pos q1) ≡ biased (weak_delta_n p1 p0 q0 q1)
unfolding delta0
delta_is p1 p0 q0 q1 h = simp diffs (shr_diff 65536 4 _ _ (omega arith) ∙ diff_eq _ _ _ _ (omega arith))

pub chroma_delta_is : (p1 p0 q0 q1 : ℕ) → 4 * p0 + q1 ≤ 524288
    → chroma_delta (pos p1) (pos p0) (pos q0) (pos q1) ≡ biased ((4 * q0 + p1 + 524292 - (4 * p0 + q1)) / 8)
unfolding chroma_delta
chroma_delta_is p1 p0 q0 q1 h = simp diffs (shr_diff 65536 3 _ _ (omega arith) ∙ diff_eq _ _ _ _ (omega arith))

pub clip_delta_is : {t : ℕ} (d : ℕ) → t < 65536 → clip3 (neg (pos t)) (pos t) (biased d) ≡ biased (clip_delta_n t d)
clip_delta_is {t} d h = clip_sym t d 65536 ∙ diff_eq _ _ _ _ (omega arith)

pub neg_is : {d : ℕ} → d ≤ 131072 → neg (biased d) ≡ biased (131072 - d)
neg_is {d} h = neg_diff d 65536 ∙ diff_eq _ _ _ _ (omega arith)

pub moved_is : (largest x d : ℕ) → clip1 largest (pos x ⊞ biased d) ≡ moved_n largest x d
unfolding clip1 nat_of
moved_is largest x d = ap nat_of (ap (clip3 (pos 0) (pos largest)) (simp diffs) ∙ clip_unit largest (x + d) 65536)

pub moved_back_is : (largest x d : ℕ) → d ≤ 131072
    → clip1 largest (pos x ⊟ biased d) ≡ moved_n largest x (131072 - d)
moved_back_is largest x d h =
    let e : pos x ⊟ biased d ≡ pos x ⊞ biased (131072 - d) = simp diffs (diff_eq _ _ _ _ (omega arith)) in
    ap (clip1 largest) e ∙ moved_is largest x (131072 - d)

-- ---- the second sample of a side

half_is : (mean x1 d : ℕ) → x1 ≤ d + 65536 → (pos mean ⊟ pos x1 ⊞ biased d >> 1) ≡ biased ((mean + d + 65536 - x1) / 2)
half_is mean x1 d h = simp diffs (shr_diff 65536 1 _ _ (omega arith) ∙ diff_eq _ _ _ _ (omega arith))

side_is : {half : ℕ} (x2 x1 x0 d : ℕ) → half < 65536 → x1 ≤ d + 65536
    → side_delta (pos half) (pos x2) (pos x1) (pos x0) (biased d) ≡ biased (side_delta_n half x2 x1 x0 d)
unfolding side_delta
side_is {half} x2 x1 x0 d h k =
    simp naturals
    (ap (clip3 (neg (pos half)) (pos half)) (half_is ((x2 + x0 + 1) / 2) x1 d k) ∙ clip_delta_is _ h)

pub second_is : (on : Bool) (largest half x2 x1 x0 d : ℕ) → half < 65536 → x1 ≤ d + 65536
    → second largest (pos half) on x2 x1 x0 (biased d) ≡ second_n on largest half x2 x1 x0 d
unfolding second
second_is true largest half x2 x1 x0 d h k =
    ap (λ (z : ℤ). clip1 largest (pos x1 ⊞ z)) (side_is x2 x1 x0 d h k) ∙ moved_is largest x1 _
second_is false largest half x2 x1 x0 d h k = refl
