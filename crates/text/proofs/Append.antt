-- Laws of text that is appended: none, one byte, and one text after another. Assumes nothing.
use mathlib.Core.Path.{refl, ◌∙◌}
use mathlib.Core.List.{List, [], ◌∷◌, ◌++◌, append_assoc, append-nil}
use Prim.Native.Nat.{ℕ, ◌+◌, ◌<◌}
use native.Mathlib.Numerals.{add-one}
use native.Mathlib.Omega.{arith}
use lib.ListN.{length, set, length-set, length-append}
use lib.Seq.{take-suc-set, drop-set-lt, drop-drop}
use Rattle.text.specs.Text.{Appended}

pub appended_none : (at : ℕ) (l : List ℕ) → Appended at [] l l at
appended_none at l = record { place = omega arith; len = refl; front = simp append-nil; rest = refl }

pub appended_one : {at : ℕ} {l : List ℕ} (b : ℕ) → at < length l → Appended at (b ∷ []) l (set l at b) (at + 1)
appended_one {at} {l} b h =
    record {
      place = omega arith;
      len = length-set l at b;
      front = rw (add-one, take-suc-set);
      rest = drop-set-lt (at + 1) l at b (omega arith);
    }

pub appended_then : {at m n : ℕ} {xs ys a b c : List ℕ} → Appended at xs a b m → Appended m ys b c n
    → Appended at (xs ++ ys) a c n
appended_then {at} {m} {n} {xs} {ys} {a} {b} {c} p q =
    record {
      place = simp length-append (omega arith);
      len = q.len ∙ p.len;
      front = q.front ∙ rw (p.front, append_assoc);
      rest = q.rest ∙ rw (q.place, ← drop-drop _ _ b, p.rest, drop-drop);
    }
