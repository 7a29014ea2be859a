-- The definitions end in naturals, by `nat_of`: nothing is lost by that, and samples up to the largest stay up to it.
use Prim.Native.Nat.{ℕ, ◌*◌, ◌≤◌}
use mathlib.Core.Path.{◌≡◌, sym, ◌∙◌, ap, subst}
use mathlib.Core.Bool.{Bool, true, false, cond}
use native.Mathlib.Omega.{arith}
use lib.Dec.{ltb, eqb}
use lib.IntN.{ℤ, pos}
use Rattle.ints.specs.Int.{neg, clip3, abs, nat_of}
use Rattle.ints.proofs.Laws.{naturals, times-pos, by_diff, clip_unit, clip_near}
use Rattle.lines.specs.declared.Line.{Line}
use Rattle.lines.specs.Decision.{Decision}
use Rattle.lines.specs.Luma.{near, strong_line, delta0, clip1, second, weak_by, weak_line, luma_line}
use Rattle.lines.proofs.Numbers.{near_is}

-- Clip1 gives an integer that is not negative, and at most the largest sample
pub clip1_whole : (largest : ℕ) (v : ℤ) → pos (clip1 largest v) ≡ clip3 (pos 0) (pos largest) v
unfolding clip1 nat_of
clip1_whole largest = by_diff _ (λ a b. ap pos (ap nat_of (clip_unit largest a b)) ∙ sym (clip_unit largest a b))

pub clip1_within : (largest : ℕ) (v : ℤ) → clip1 largest v ≤ largest
unfolding clip1 nat_of
clip1_within largest =
    by_diff _ (λ a b. subst (λ (n : ℕ). n ≤ largest) (sym (ap nat_of (clip_unit largest a b))) (omega arith))

-- and so does the strong filter's Clip3, of a natural
pub near_whole : (t x n : ℕ) → pos (nat_of (near (pos t) (pos x) (pos n))) ≡ near (pos t) (pos x) (pos n)
unfolding near nat_of
near_whole t x n = simp times-pos (ap pos (ap nat_of (clip_near x (2 * t) n)) ∙ sym (clip_near x (2 * t) n))

near_within : {largest x n : ℕ} (t : ℕ) → x ≤ largest → n ≤ largest
    → nat_of (near (pos t) (pos x) (pos n)) ≤ largest
near_within t h k = rw near_is (omega arith)

pub record Within (largest : ℕ) (l : Line) : Type 0 where
  pub p3≤ : l.p3 ≤ largest
  pub p2≤ : l.p2 ≤ largest
  pub p1≤ : l.p1 ≤ largest
  pub p0≤ : l.p0 ≤ largest
  pub q0≤ : l.q0 ≤ largest
  pub q1≤ : l.q1 ≤ largest
  pub q2≤ : l.q2 ≤ largest
  pub q3≤ : l.q3 ≤ largest

pub strong_within : {largest : ℕ} {l : Line} (t : ℕ) → Within largest l → Within largest (strong_line t l)
unfolding strong_line
strong_within t w =
    record {
      p3≤ = w.p3≤;
      p2≤ = simp naturals (near_within t w.p2≤ (omega arith));
      p1≤ = simp naturals (near_within t w.p1≤ (omega arith));
      p0≤ = simp naturals (near_within t w.p0≤ (omega arith));
      q0≤ = simp naturals (near_within t w.q0≤ (omega arith));
      q1≤ = simp naturals (near_within t w.q1≤ (omega arith));
      q2≤ = simp naturals (near_within t w.q2≤ (omega arith));
      q3≤ = w.q3≤;
    }

second_within : {largest x1 : ℕ} (half : ℤ) (on : Bool) (x2 x0 : ℕ) (d : ℤ) → x1 ≤ largest
    → second largest half on x2 x1 x0 d ≤ largest
unfolding second
second_within half true x2 x0 d h = clip1_within _ _
second_within half false x2 x0 d h = h

weak_by_within : {largest : ℕ} {l : Line} (t : ℕ) (p q : Bool) (d : ℤ) → Within largest l
    → Within largest (weak_by largest t p q l d)
unfolding weak_by
weak_by_within t p q d w =
    record {
      p3≤ = w.p3≤;
      p2≤ = w.p2≤;
      p1≤ = second_within _ p _ _ d w.p1≤;
      p0≤ = clip1_within _ _;
      q0≤ = clip1_within _ _;
      q1≤ = second_within _ q _ _ (neg d) w.q1≤;
      q2≤ = w.q2≤;
      q3≤ = w.q3≤;
    }

-- what holds of both holds of the chosen one
pub of_chosen : {A : Type 0} (P : A → Type 0) {a b : A} (t : Bool) → P a → P b → P (cond t a b)
of_chosen P true h k = h
of_chosen P false h k = k

pub weak_within : {largest : ℕ} {l : Line} (t : ℕ) (p q : Bool) → Within largest l
    → Within largest (weak_line largest t p q l)
unfolding weak_line
weak_within {largest} {l} t p q w =
    let d0 : ℤ = delta0 (pos l.p1) (pos l.p0) (pos l.q0) (pos l.q1) in
    of_chosen (Within largest) (ltb (abs d0) (t * 10)) (weak_by_within t p q (clip3 (neg (pos t)) (pos t) d0) w) w

pub luma_within : {largest : ℕ} {l : Line} (d : Decision) (t : ℕ) → Within largest l
    → Within largest (luma_line d largest t l)
unfolding luma_line
luma_within {largest} d t w =
    of_chosen (Within largest) (eqb d.d_e 2) (strong_within t w)
    (of_chosen (Within largest) (eqb d.d_e 1) (weak_within t d.d_ep d.d_eq w) w)
