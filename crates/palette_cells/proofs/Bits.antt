-- What becomes of flags when bit 4 is turned into bit 2.
use Prim.Native.Nat.{ℕ, ◌+◌, ◌-◌, ◌*◌, ◌/◌, ◌%◌, ◌≤◌, ◌<◌}
use mathlib.Core.Path.{◌≡◌, refl, ap, sym, ◌∙◌}
use mathlib.Core.Bool.{Bool, true, false, ◌||◌, or-true, or-false}
use mathlib.Core.Logic.{◌⊎◌, inl, inr}
use native.Mathlib.Omega.{arith}
use borrow.Author.Tests.{eqb-true, eqb-false, eq-eqb, lt-ltb, le-ltb}
use lib.Dec.{eqb, ltb}
use Rattle.ints.proofs.Laws.{either}
use Rattle.picture.specs.Cell.{bit}
use Rattle.palette_cells.specs.Palette.{with_lossless, lossless_for}

-- ---- flags in binary: bits 2 to 4, what is above and what is below

record Digits (f : ℕ) : Type 0 where
  above : ℕ
  four : ℕ
  three : ℕ
  two : ℕ
  below : ℕ
  four_most : four ≤ 1
  three_most : three ≤ 1
  two_most : two ≤ 1
  below_most : below ≤ 3
  are : f ≡ 32 * above + 16 * four + 8 * three + 4 * two + below

digits : (f : ℕ) → Digits f
digits f = record {
  above = f / 4 / 2 / 2 / 2;
  four = f / 4 / 2 / 2 % 2;
  three = f / 4 / 2 % 2;
  two = f / 4 % 2;
  below = f % 4;
  four_most = omega arith;
  three_most = omega arith;
  two_most = omega arith;
  below_most = omega arith;
  are = omega arith;
}

-- the same flags with bit 4 clear, and bit 2 as it is given
cleared : {f : ℕ} (s : Digits f) (two g : ℕ) → two ≤ 1 → g ≡ 32 * s.above + 8 * s.three + 4 * two + s.below
    → Digits g
cleared s two g two_most are = record {
  above = s.above;
  four = 0;
  three = s.three;
  two = two;
  below = s.below;
  four_most = omega arith;
  three_most = s.three_most;
  two_most = two_most;
  below_most = s.below_most;
  are = omega arith;
}

-- what is above the last bit does not show in it
last : (q r : ℕ) {n : ℕ} → n ≡ 2 * q + r → n % 2 ≡ r % 2
last q r e = omega arith

module _ (f : ℕ) (s : Digits f) where
  zero_is : f / 1 % 2 ≡ s.below % 2
  zero_is = last (16 * s.above + 8 * s.four + 4 * s.three + 2 * s.two) s.below (omega arith)

  one_is : f / 2 % 2 ≡ s.below / 2 % 2
  one_is = last (8 * s.above + 4 * s.four + 2 * s.three + s.two) (s.below / 2) (omega arith)

  two_is : f / 4 % 2 ≡ s.two
  two_is = last (4 * s.above + 2 * s.four + s.three) s.two (omega arith) ∙ omega arith

  three_is : f / 8 % 2 ≡ s.three
  three_is = last (2 * s.above + s.four) s.three (omega arith) ∙ omega arith

  four_is : f / 16 % 2 ≡ s.four
  four_is = last s.above s.four (omega arith) ∙ omega arith

-- ---- flags f and what they become, g

pub record Turns (f g : ℕ) : Type 0 where
  pub zeroth : bit g 0 ≡ bit f 0
  pub first : bit g 1 ≡ bit f 1
  pub second : bit g 2 ≡ (bit f 2 || bit f 4)
  pub third : bit g 3 ≡ bit f 3
  pub fourth : bit g 4 ≡ false
  pub large : ltb 31 g ≡ ltb 31 f

-- without bit 4 they stay
staying : (f : ℕ) → bit f 4 ≡ false → Turns f f
staying f e = record {
  zeroth = refl;
  first = refl;
  second = rw e (sym (or-false (bit f 2)));
  third = refl;
  fourth = e;
  large = refl;
}

-- bits, as numbers
same_bit : {m n : ℕ} → m ≡ n → eqb m 1 ≡ eqb n 1
same_bit e = ap (λ (b : ℕ). eqb b 1) e

-- both or neither are above 31
same_large : (f g : ℕ) → (31 < f → 31 < g) → (f ≤ 31 → g ≤ 31) → ltb 31 g ≡ ltb 31 f
same_large f g up down = go (either 31 f)
  where
    go : (31 < f) ⊎ (f ≤ 31) → ltb 31 g ≡ ltb 31 f
    go (inl h) = lt-ltb _ _ (up h) ∙ sym (lt-ltb _ _ h)
    go (inr h) = le-ltb _ _ (down h) ∙ sym (le-ltb _ _ h)

-- with bit 4, they have bit 2 in its place
turning : (f g : ℕ) (s : Digits f) → s.four ≡ 1 → g ≡ 32 * s.above + 8 * s.three + 4 + s.below → Turns f g
unfolding cleared
turning f g s four is = record {
  zeroth = same_bit (zero_is g t ∙ sym (zero_is f s));
  first = same_bit (one_is g t ∙ sym (one_is f s));
  second =
      eq-eqb _ _ (two_is g t)
      ∙ sym (or-true (bit f 2))
      ∙ ap (λ (b : Bool). bit f 2 || b) (sym (eq-eqb _ _ (four_is f s ∙ four)));
  third = same_bit (three_is g t ∙ sym (three_is f s));
  fourth = same_bit (four_is g t);
  large = same_large f g (λ h. omega arith) (λ h. omega arith);
}
  where
    t : Digits g
    t = cleared s 1 g (omega arith) (omega arith)

pub turns : (f : ℕ) → Turns f (lossless_for f)
unfolding cleared
turns f = go (bit f 4) refl
  where
    go : (b : Bool) → bit f 4 ≡ b → Turns f (lossless_for f)
    go false e = rw e (staying f e)
    go true e = rw e (turning f (with_lossless (f - 16)) s four (lossless (bit (f - 16) 2) refl))
      where
        s : Digits f
        s = digits f

        four : s.four ≡ 1
        four = sym (four_is f s) ∙ eqb-true _ _ e

        -- without bit 4
        rest : Digits (f - 16)
        rest = cleared s s.two (f - 16) s.two_most (omega (arith, four, s.are))

        lossless : (b : Bool) → bit (f - 16) 2 ≡ b
            → with_lossless (f - 16) ≡ 32 * s.above + 8 * s.three + 4 + s.below
        lossless true is =
            let two : s.two ≡ 1 = sym (two_is _ rest) ∙ eqb-true _ _ is in
            rw is (omega (arith, rest.are, two))
        lossless false is =
            let no : s.two ≡ 1 → ⊥ = λ two. eqb-false _ _ is (two_is _ rest ∙ two) in
            rw is (omega (arith, rest.are, s.two_most, no))
