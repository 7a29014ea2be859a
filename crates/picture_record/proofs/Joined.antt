-- The numbers of a record, of the bytes that are read.
-- Assumes nothing.
use Prim.Native.Nat.{ℕ, zero, suc, ◌+◌, ◌-◌, ◌*◌, ◌^◌, ◌≤◌, ◌<◌}
use mathlib.Core.Path.{◌≡◌, refl, sym, ap, ◌∙◌}
use mathlib.Core.List.{List, [], ◌∷◌, ◌++◌}
use mathlib.Core.Logic.{◌⊎◌, inl, inr}
use native.Mathlib.Numerals.{add-one}
use native.Mathlib.Omega.{arith}
use borrow.Author.Tests.{lt-ltb, le-ltb}
use lib.ListN.{length, get_or, take, drop, set}
use lib.Seq.{take-add, take-suc-set, drop-drop, drop-cons}
use mir.Syntax.{w32}
use mir.Val.{to_z}
use mir.ValLaws.{to_z_pos, to_z-neg}
use Rattle.ints.proofs.Laws.{either, diff_neg}
use Rattle.picture.specs.Plane.{tabulate}
use Rattle.picture_record.specs.Numbers.{number_at, half_at, word_at, halves, signed_of}

two_bytes : (l : List ℕ) (n : ℕ) → n + 2 ≤ length l → take 2 (drop n l) ≡ get_or l n 0 ∷ get_or l (n + 1) 0 ∷ []
two_bytes l n h = simp (add-one, drop-cons l n 0 (omega arith), drop-cons l (suc n) 0 (omega arith))

pub half_joined : (l : List ℕ) (k : ℕ) → 2 * k + 2 ≤ length l
    → get_or l (2 * k) 0 + get_or l (2 * k + 1) 0 * 256 ≡ half_at l k
unfolding number_at
half_joined l k h = rw (two_bytes l (2 * k)) (omega arith)

four_bytes : (l : List ℕ) (n : ℕ) → take 4 (drop n l) ≡ take 2 (drop n l) ++ take 2 (drop (n + 2) l)
four_bytes l n = take-add 2 2 (drop n l) ∙ rw drop-drop

-- a word is its four bytes
pub word_joined : (l : List ℕ) (k : ℕ) → 4 * k + 4 ≤ length l
    → get_or l (4 * k) 0
    + get_or l (4 * k + 1) 0 * 256
    + get_or l (4 * k + 2) 0 * 65536
    + get_or l (4 * k + 3) 0 * 16777216
    ≡ word_at l k
unfolding number_at
word_joined l k h =
    let last : 4 * k + 2 + 1 ≡ 4 * k + 3 = omega arith in
    rw (four_bytes l (4 * k), two_bytes l (4 * k) (omega arith), two_bytes l (4 * k + 2) (omega arith), last)
    (omega arith)

-- the signed number that has these bits
pub signed_bits : (w : ℕ) → w < 2 ^ 32 → to_z w32 w ≡ signed_of w
unfolding signed_of
signed_bits w h = go (either w (2 ^ 31))
  where
    go : (w < 2 ^ 31) ⊎ (2 ^ 31 ≤ w) → to_z w32 w ≡ signed_of w
    go (inl low) = to_z_pos w32 w low ∙ rw (lt-ltb w (2 ^ 31) low) refl
    go (inr high) =
        let k = 2 ^ 32 - suc w in
        let e : w ≡ 2 ^ 32 - suc k = omega arith in
        ap (to_z w32) e ∙ to_z-neg w32 k (omega arith) ∙ rw (le-ltb w (2 ^ 31) high) (sym (diff_neg w (2 ^ 32) h))

-- ---- a list of numbers, filled from the front

one_more : (n : ℕ) (f : ℕ → ℕ) → tabulate (suc n) f ≡ tabulate n f ++ (f n ∷ [])
one_more zero f = refl
one_more (suc n) f = ap (λ (r : List ℕ). f 0 ∷ r) (one_more n (λ k. f (suc k)))

module _ (bytes out : List ℕ) (n : ℕ) (filled : take n out ≡ halves bytes n) where
  pub more_halves : {v : ℕ} → n < length out → 2 * n + 2 ≤ length bytes
      → v ≡ get_or bytes (2 * n) 0 + get_or bytes (2 * n + 1) 0 * 256
      → take (n + 1) (set out n v) ≡ halves bytes (n + 1)
  more_halves {v} h room e =
      rw (add-one, take-suc-set out n v h, filled, e ∙ half_joined bytes n room) (sym (one_more n (half_at bytes)))
