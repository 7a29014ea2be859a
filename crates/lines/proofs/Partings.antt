-- Where the Rust and the standard write different steps and no sample can show it.
use Prim.Native.Nat.{ℕ, ◌+◌, ◌*◌, ◌/◌, ◌≤◌}
use mathlib.Core.Path.{◌≡◌, refl, sym, ◌∙◌, ap}
use mathlib.Core.Bool.{Bool}
use native.Mathlib.Omega.{arith}
use lib.Dec.{eqb}
use lib.IntN.{ℤ, pos}
use borrow.Author.Tests.{le-ltb}
use Rattle.ints.specs.Int.{◌⊞◌, ◌⊟◌, neg, ◌⊠◌, ◌>>◌, clip3, abs, nat_of}
use Rattle.ints.proofs.Laws.{diffs, naturals, pos_diff, diff_eq, by_diff, clip_sym, clip_unit}
use Rattle.lines.specs.declared.Line.{Line}
use Rattle.lines.specs.declared.ChromaLine.{ChromaLine}
use Rattle.lines.specs.Chroma.{chroma_line}
use Rattle.lines.specs.Decision.{Decision}
use Rattle.lines.specs.Luma.{clip1, near, strong_line, delta0, weak_line, luma_line}
use Rattle.lines.proofs.Numbers.{near_is}
use Rattle.lines.proofs.Within.{Within, near_whole, of_chosen}

-- ---- the Rust holds each strong sample to 0 .. max besides; a line in range does not show it

clip1_of : {largest x : ℕ} → x ≤ largest → clip1 largest (pos x) ≡ x
unfolding clip1 nat_of
clip1_of {largest} {x} h =
    ap (λ (z : ℤ). nat_of (clip3 (pos 0) (pos largest) z)) (pos_diff x) ∙ ap nat_of (clip_unit largest x 0)
    ∙ omega arith

-- the Rust's strong line: v.clamp(x - 2 * tc, x + 2 * tc).clamp(0, max)
unfoldable pub rust_strong_line : ℕ → ℕ → Line → Line
rust_strong_line largest t l =
    let tc : ℤ = pos t in
    let p3 : ℤ = pos l.p3 in
    let p2 : ℤ = pos l.p2 in
    let p1 : ℤ = pos l.p1 in
    let p0 : ℤ = pos l.p0 in
    let q0 : ℤ = pos l.q0 in
    let q1 : ℤ = pos l.q1 in
    let q2 : ℤ = pos l.q2 in
    let q3 : ℤ = pos l.q3 in
    record {
      p3 = l.p3;
      p2 = clip1 largest (near tc p2 (pos 2 ⊠ p3 ⊞ pos 3 ⊠ p2 ⊞ p1 ⊞ p0 ⊞ q0 ⊞ pos 4 >> 3));
      p1 = clip1 largest (near tc p1 (p2 ⊞ p1 ⊞ p0 ⊞ q0 ⊞ pos 2 >> 2));
      p0 = clip1 largest (near tc p0 (p2 ⊞ pos 2 ⊠ p1 ⊞ pos 2 ⊠ p0 ⊞ pos 2 ⊠ q0 ⊞ q1 ⊞ pos 4 >> 3));
      q0 = clip1 largest (near tc q0 (p1 ⊞ pos 2 ⊠ p0 ⊞ pos 2 ⊠ q0 ⊞ pos 2 ⊠ q1 ⊞ q2 ⊞ pos 4 >> 3));
      q1 = clip1 largest (near tc q1 (p0 ⊞ q0 ⊞ q1 ⊞ q2 ⊞ pos 2 >> 2));
      q2 = clip1 largest (near tc q2 (p0 ⊞ q0 ⊞ q1 ⊞ pos 3 ⊠ q2 ⊞ pos 2 ⊠ q3 ⊞ pos 4 >> 3));
      q3 = l.q3;
    }

sample : {largest x : ℕ} (t n : ℕ) → x ≤ largest → n ≤ largest
    → clip1 largest (near (pos t) (pos x) (pos n)) ≡ nat_of (near (pos t) (pos x) (pos n))
sample {largest} {x} t n h k = ap (clip1 largest) (sym (near_whole t x n)) ∙ clip1_of (rw near_is (omega arith))

pub strong_clamp : {largest : ℕ} {l : Line} (t : ℕ) → Within largest l → rust_strong_line largest t l ≡ strong_line t l
unfolding rust_strong_line strong_line
strong_clamp {largest} {l} t w =
    simp naturals
    (λ i. record {
      p3 = l.p3;
      p2 = sample t ((2 * l.p3 + 3 * l.p2 + l.p1 + l.p0 + l.q0 + 4) / 8) w.p2≤ (omega arith) i;
      p1 = sample t ((l.p2 + l.p1 + l.p0 + l.q0 + 2) / 4) w.p1≤ (omega arith) i;
      p0 = sample t ((l.p2 + 2 * l.p1 + 2 * l.p0 + 2 * l.q0 + l.q1 + 4) / 8) w.p0≤ (omega arith) i;
      q0 = sample t ((l.p1 + 2 * l.p0 + 2 * l.q0 + 2 * l.q1 + l.q2 + 4) / 8) w.q0≤ (omega arith) i;
      q1 = sample t ((l.p0 + l.q0 + l.q1 + l.q2 + 2) / 4) w.q1≤ (omega arith) i;
      q2 = sample t ((l.p0 + l.q0 + l.q1 + 3 * l.q2 + 2 * l.q3 + 4) / 8) w.q2≤ (omega arith) i;
      q3 = l.q3;
    })

-- ---- tC 0: the Rust and document 01 leave the segment alone; the standard's filters move nothing then

near_zero : (x n : ℕ) → nat_of (near (pos 0) (pos x) (pos n)) ≡ x
near_zero x n = near_is 0 x n ∙ omega arith

strong_zero : (l : Line) → strong_line 0 l ≡ l
unfolding strong_line
strong_zero l = simp (naturals, near_zero)

weak_zero : (largest : ℕ) (p q : Bool) (l : Line) → weak_line largest 0 p q l ≡ l
unfolding weak_line
weak_zero largest p q l =
    simp (le-ltb (abs (delta0 (pos l.p1) (pos l.p0) (pos l.q0) (pos l.q1))) 0 (omega arith))

pub tc_zero : (d : Decision) (largest : ℕ) (l : Line) → luma_line d largest 0 l ≡ l
unfolding luma_line
tc_zero d largest l =
    let stays : Line → Type 0 = λ m. m ≡ l in
    of_chosen stays (eqb d.d_e 2) (strong_zero l)
    (of_chosen stays (eqb d.d_e 1) (weak_zero largest d.d_ep d.d_eq l) refl)

-- Clip3(-0, 0, v) is 0
clip_zero : (v : ℤ) → clip3 (neg (pos 0)) (pos 0) v ≡ pos 0
clip_zero = by_diff _ (λ a b. clip_sym 0 a b ∙ diff_eq _ _ 0 0 (omega arith) ∙ sym (pos_diff 0))

pub chroma_tc_zero : {largest : ℕ} (l : ChromaLine) → l.p0 ≤ largest → l.q0 ≤ largest → chroma_line largest 0 l ≡ l
unfolding chroma_line
chroma_tc_zero l h k =
    let up : pos l.p0 ⊞ pos 0 ≡ pos l.p0 = simp diffs (diff_eq _ _ _ _ (omega arith)) in
    let down : pos l.q0 ⊟ pos 0 ≡ pos l.q0 = simp diffs (diff_eq _ _ _ _ (omega arith)) in
    simp (clip_zero, up, down)
    (λ i. record { p1 = l.p1; p0 = clip1_of h i; q0 = clip1_of k i; q1 = l.q1 })
