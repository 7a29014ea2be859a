-- Each bound of a segment is met, at every depth from 8 on and every tC.
use Prim.Native.Nat.{ℕ, zero, suc, ◌+◌, ◌*◌, ◌-◌, ◌/◌, ◌%◌, ◌^◌, ◌≤◌, ◌<◌, min}
use mathlib.Core.Path.{◌≡◌, sym, ◌∙◌, ap}
use mathlib.Core.Bool.{true, false, and-false}
use native.Mathlib.Omega.{arith}
use lib.Dec.{eqb, ltb}
use lib.IntN.{ℤ, pos}
use lib.Pow.{pow-add, pow_pos}
use borrow.Author.Tests.{lt-ltb, le-ltb}
use Rattle.bounded_moves.specs.Segments.{InRange, decided, strong_most, weak_most, chroma_most}
use Rattle.filter.specs.Kernel.{chroma, line_of, kernel}
use Rattle.ints.specs.Int.{◌⊖◌, ◌⊞◌, ◌⊟◌, neg, ◌⊠◌, ◌>>◌, clip3, abs, nat_of}
use Rattle.ints.specs.Sample.{largest_at, distance}
use Rattle.ints.proofs.Laws.{diffs, naturals, shr-pos, shr_diff, abs_diff, diff_eq, pos_diff, clip_sym, clip_index_is}
use Rattle.lines.specs.Chroma.{chroma_delta, chroma_line}
use Rattle.lines.specs.Counted.{from_edge}
use Rattle.lines.specs.Decision.{Decision, activity, d_sam, decision}
use Rattle.lines.specs.Luma.{clip1, near, strong_line, delta0, side_delta, second, weak_by, weak_line, luma_line}
use Rattle.lines.proofs.Numbers.{activity_is, dsam_is, near_is}
use Rattle.lines.proofs.Within.{of_chosen}
use Rattle.bounds_met.specs.Segments.{MovedExactly, wild, stepped, AllSegmentsMet}

-- the first n samples of a side, three at the most
firsts : (n : ℕ) (most : ℕ → ℕ) (a0 a1 a2 a3 b0 b1 b2 b3 : ℕ) → n ≤ 3
    → distance a0 b0 ≡ most 0 → (1 < n → distance a1 b1 ≡ most 1) → (2 < n → distance a2 b2 ≡ most 2)
    → (i : ℕ) → i < n → distance (from_edge a0 a1 a2 a3 i) (from_edge b0 b1 b2 b3 i) ≡ most i
firsts n most a0 a1 a2 a3 b0 b1 b2 b3 few e0 e1 e2 zero h = e0
firsts n most a0 a1 a2 a3 b0 b1 b2 b3 few e0 e1 e2 (suc zero) h = e1 h
firsts n most a0 a1 a2 a3 b0 b1 b2 b3 few e0 e1 e2 (suc (suc zero)) h = e2 h
firsts n most a0 a1 a2 a3 b0 b1 b2 b3 few e0 e1 e2 (suc (suc (suc i))) h = absurd (omega arith)

-- ---- the decisions

-- flat lines are decided on as strong
flat_strong : (β tc : ℕ) → 8 ≤ β → 1 ≤ tc → (decided β tc (wild tc)).d_e ≡ 2
unfolding decision
flat_strong β tc hβ ht =
    let smooth = lt-ltb 0 β (omega arith) in
    let flat = lt-ltb 0 (β / 4) (omega arith) in
    let level = lt-ltb 0 (β / 8) (omega arith) in
    let near = lt-ltb 0 ((5 * tc + 1) / 2) (omega arith) in
    simp (activity_is, dsam_is, smooth, flat, level, near)

-- a step of 4 * tC is decided on as weak, with both flags: its sides are flat, and 4 * tC is no less than 5 * tC / 2
module _ (β tc : ℕ) (hβ : 8 ≤ β) (ht : 1 ≤ tc) where
  calm : activity (pos (4 * tc)) (pos (4 * tc)) (pos (4 * tc)) ≡ 0
  calm = activity_is (4 * tc) (4 * tc) (4 * tc) ∙ omega arith

  too_far : (dpq : ℕ) → d_sam β tc dpq (line_of (stepped tc) 0) ≡ false
  too_far dpq =
      dsam_is β tc dpq (line_of (stepped tc) 0)
      ∙ simp (le-ltb (distance 0 (4 * tc)) ((5 * tc + 1) / 2) (omega arith), and-false)

  step_weak : decided β tc (stepped tc) ≡ record { d_e = 1; d_ep = true; d_eq = true }
  unfolding decision
  step_weak =
      let smooth = lt-ltb 0 β (omega arith) in
      let flag = lt-ltb 0 ((β + β / 2) / 8) (omega arith) in
      simp (activity_is 0 0 0, calm, too_far, smooth, flag)

-- ---- the strong filter, on lines 1 and 2 of a window whose lines 0 and 3 are flat

down_by_2 : (t x n : ℕ) → 2 * t ≤ x → n + 2 * t ≤ x → distance x (nat_of (near (pos t) (pos x) (pos n))) ≡ 2 * t
down_by_2 t x n h k = rw near_is (omega arith)

up_by_2 : (t x n : ℕ) → x + 2 * t ≤ n → distance x (nat_of (near (pos t) (pos x) (pos n))) ≡ 2 * t
up_by_2 t x n h = rw near_is (omega arith)

strong_line_lem : (t : ℕ) → MovedExactly 3 (strong_most t) (line_of (wild t) 1) (strong_line t (line_of (wild t) 1))
unfolding strong_line
strong_line_lem t =
    simp naturals
    (record {
      p_met =
          firsts 3 (strong_most t) _ _ _ _ _ _ _ _ (omega arith) (up_by_2 t _ _ (omega arith))
          (λ _. down_by_2 t _ _ (omega arith) (omega arith)) (λ _. up_by_2 t _ _ (omega arith));
      q_met =
          firsts 3 (strong_most t) _ _ _ _ _ _ _ _ (omega arith) (down_by_2 t _ _ (omega arith) (omega arith))
          (λ _. up_by_2 t _ _ (omega arith)) (λ _. down_by_2 t _ _ (omega arith) (omega arith));
    })

-- ---- Clip3(-t, t, v) of a number that is not within

clip_above : (t a b : ℕ) → b + t ≤ a → clip3 (neg (pos t)) (pos t) (a ⊖ b) ≡ pos t
clip_above t a b h = clip_sym t a b ∙ diff_eq _ _ t 0 (omega arith) ∙ sym (pos_diff t)

clip_below : (t a b : ℕ) → a + t ≤ b → clip3 (neg (pos t)) (pos t) (a ⊖ b) ≡ neg (pos t)
clip_below t a b h = clip_sym t a b ∙ simp diffs (diff_eq _ _ 0 t (omega arith))

-- ---- Clip1 of a sample that is moved within its range

module _ (largest : ℕ) where
  lands : (v : ℤ) (a b r : ℕ) → v ≡ a ⊖ b → min largest (a - b) ≡ r → clip1 largest v ≡ r
  unfolding clip1
  lands v a b r e m = ap (λ (z : ℤ). nat_of (clip3 (pos 0) (pos largest) z)) e ∙ clip_index_is largest a b ∙ m

  up : (x d : ℕ) → x + d ≤ largest → clip1 largest (pos x ⊞ pos d) ≡ x + d
  up x d h = lands _ (x + d) 0 (x + d) (simp diffs (diff_eq _ _ _ _ (omega arith))) (omega arith)

  down : (x d : ℕ) → x ≤ largest → clip1 largest (pos x ⊟ pos d) ≡ x - d
  down x d h = lands _ x d (x - d) (simp diffs (diff_eq _ _ _ _ (omega arith))) (omega arith)

-- ---- a step of 4 * tC, by the weak filter

module _ (largest t : ℕ) (some : 0 < t) (room : 4 * t ≤ largest) where
  -- Δ before it is clipped
  delta : delta0 (pos 0) (pos 0) (pos (4 * t)) (pos (4 * t)) ≡ ((24 * t + 8) / 16) ⊖ 0
  unfolding delta0
  delta = simp diffs (shr_diff 0 4 _ _ (omega arith) ∙ diff_eq _ _ _ _ (omega arith))

  smooth : abs (delta0 (pos 0) (pos 0) (pos (4 * t)) (pos (4 * t))) < t * 10
  smooth = rw (delta, abs_diff) (omega arith)

  clipped : clip3 (neg (pos t)) (pos t) (delta0 (pos 0) (pos 0) (pos (4 * t)) (pos (4 * t))) ≡ pos t
  clipped = rw delta (clip_above t _ 0 (omega arith))

  -- Δp and Δq
  delta_p : side_delta (pos (t / 2)) (pos 0) (pos 0) (pos 0) (pos t) ≡ pos (t / 2)
  unfolding side_delta
  delta_p =
      let v : (pos 0 ⊞ pos 0 ⊞ pos 1 >> 1) ⊟ pos 0 ⊞ pos t >> 1 ≡ (t / 2) ⊖ 0 =
      simp naturals (simp diffs (shr_diff 0 1 _ _ (omega arith) ∙ diff_eq _ _ _ _ (omega arith))) in
      rw v (clip_above (t / 2) _ 0 (omega arith))

  delta_q : side_delta (pos (t / 2)) (pos (4 * t)) (pos (4 * t)) (pos (4 * t)) (neg (pos t)) ≡ neg (pos (t / 2))
  unfolding side_delta
  delta_q =
      let v : (pos (4 * t) ⊞ pos (4 * t) ⊞ pos 1 >> 1) ⊟ pos (4 * t) ⊞ neg (pos t) >> 1 ≡ 0 ⊖ ((t + 1) / 2) =
      simp naturals (simp diffs (shr_diff t 1 _ _ (omega arith) ∙ diff_eq _ _ _ _ (omega arith))) in
      rw v (clip_below (t / 2) 0 _ (omega arith))

  second_up : second largest (pos t >> 1) true 0 0 0 (pos t) ≡ t / 2
  unfolding second
  second_up = rw (shr-pos, delta_p) (up largest 0 (t / 2) (omega arith) ∙ omega arith)

  second_down : second largest (pos t >> 1) true (4 * t) (4 * t) (4 * t) (neg (pos t)) ≡ 4 * t - t / 2
  unfolding second
  second_down =
      rw (shr-pos, delta_q)
      (lands largest _ (4 * t) (t / 2) _ (simp diffs (diff_eq _ _ _ _ (omega arith))) (omega arith))

  weak_line_lem : (j : ℕ)
      → MovedExactly 2 (weak_most t) (line_of (stepped t) j) (weak_line largest t true true (line_of (stepped t) j))
  unfolding weak_line weak_by
  weak_line_lem j =
      let low = up largest 0 t (omega arith) in
      let high = down largest (4 * t) t room in
      simp (lt-ltb _ _ smooth, clipped, second_up, second_down, low, high)
      (record {
        p_met =
            firsts 2 (weak_most t) _ _ _ _ _ _ _ _ (omega arith) (omega arith) (λ _. omega arith)
            (λ h. absurd (omega arith));
        q_met =
            firsts 2 (weak_most t) _ _ _ _ _ _ _ _ (omega arith) (omega arith) (λ _. omega arith)
            (λ h. absurd (omega arith));
      })

-- ---- a step of 4 * tC in chroma

module _ (largest t : ℕ) (room : 4 * t ≤ largest) where
  chroma_clipped : clip3 (neg (pos t)) (pos t) (chroma_delta (pos 0) (pos 0) (pos (4 * t)) (pos (4 * t))) ≡ pos t
  unfolding chroma_delta
  chroma_clipped =
      let v : (pos 4 ⊠ (pos (4 * t) ⊟ pos 0) ⊞ pos 0 ⊟ pos (4 * t) ⊞ pos 4 >> 3) ≡ ((12 * t + 4) / 8) ⊖ 0 =
      simp diffs (shr_diff 0 3 _ _ (omega arith) ∙ diff_eq _ _ _ _ (omega arith)) in
      rw v (clip_above t _ 0 (omega arith))

  chroma_line_lem : (j : ℕ)
      → MovedExactly 1 (chroma_most t) (line_of (stepped t) j) (line_of (kernel (chroma t largest) (stepped t)) j)
  unfolding kernel chroma_line
  chroma_line_lem j =
      let low = up largest 0 t (omega arith) in
      let high = down largest (4 * t) t room in
      simp (chroma_clipped, low, high)
      (record {
        p_met =
            firsts 1 (chroma_most t) _ _ _ _ _ _ _ _ (omega arith) (omega arith) (λ h. absurd (omega arith))
            (λ h. absurd (omega arith));
        q_met =
            firsts 1 (chroma_most t) _ _ _ _ _ _ _ _ (omega arith) (omega arith) (λ h. absurd (omega arith))
            (λ h. absurd (omega arith));
      })

-- ---- all of them

-- at depth 8 or more 8 * tC is a sample
in_range : (depth tc : ℕ) → 8 ≤ depth → tc ≤ 24 * 2 ^ (depth - 8) → 8 * tc ≤ largest_at depth
in_range depth tc h most =
    let k : ℕ = depth - 8 in
    let power : 2 ^ depth ≡ 256 * 2 ^ k = ap (λ (n : ℕ). 2 ^ n) (omega arith) ∙ pow-add 2 8 k in
    omega (arith, power, pow_pos k)

-- what is one of two samples in range is in range
wild_within : (largest tc : ℕ) → 8 * tc ≤ largest → InRange largest (wild tc)
wild_within largest tc h i j =
    of_chosen (λ n. n ≤ largest) (eqb (j % 3) 0) (omega arith)
    (of_chosen (λ n. n ≤ largest) (eqb (i % 2) 0) h (omega arith))

stepped_within : (largest tc : ℕ) → 4 * tc ≤ largest → InRange largest (stepped tc)
stepped_within largest tc h i j = of_chosen (λ n. n ≤ largest) (ltb i 4) (omega arith) h

pub segments_met : AllSegmentsMet
unfolding kernel luma_line
segments_met depth β tc h hβ ht most =
    let largest : ℕ = largest_at depth in
    let wide : 8 * tc ≤ largest = in_range depth tc h most in
    let room : 4 * tc ≤ largest = omega arith in
    record {
      wild_in_range = wild_within largest tc wide;
      stepped_in_range = stepped_within largest tc room;
      strong_decided = flat_strong β tc hβ ht;
      strong_met = rw (flat_strong β tc hβ ht) (strong_line_lem tc);
      weak_decided = ap (λ (d : Decision). d.d_e) (step_weak β tc hβ ht);
      weak_met = λ j. rw (step_weak β tc hβ ht) (weak_line_lem largest tc ht room j);
      chroma_met = chroma_line_lem largest tc room;
    }
