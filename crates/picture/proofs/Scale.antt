-- A plane's columns and rows beside luma's, by the chroma format.
use Prim.Native.Nat.{ℕ, ◌%◌, ◌≤◌, ◌<◌}
use mathlib.Core.Path.{◌≡◌}
use mathlib.Core.Bool.{Bool, true, false, cond}
use native.Mathlib.Omega.{arith}
use borrow.Author.Tests.{ne_eqb}
use lib.Dec.{eqb}
use Rattle.picture.specs.Scale.{Sampling, whole, halved, absent, chroma_across, chroma_down, from_luma}

-- a plane that has samples in a direction
abbrev pub Present : Sampling → Type 0
Present whole = Unit {0}
Present halved = Unit {0}
Present absent = ⊥

either_present : (t : Bool) (a b : Sampling) → Present a → Present b → Present (cond t a b)
either_present true a b p q = p
either_present false a b p q = q

pub present_across : (format : ℕ) → (format ≡ 0 → ⊥) → Present (chroma_across format)
present_across format some = rw (ne_eqb format 0 some) (either_present (eqb format 3) whole halved tt tt)

pub present_down : (format : ℕ) → (format ≡ 0 → ⊥) → Present (chroma_down format)
present_down format some = rw (ne_eqb format 0 some) (either_present (eqb format 1) halved whole tt tt)

-- what lies under a luma sample of the picture lies in the plane
pub from_luma_less : (s : Sampling) → Present s → {n m : ℕ} → n < m → m % 8 ≡ 0 → from_luma s n < from_luma s m
from_luma_less whole some h eights = h
from_luma_less halved some h eights = omega arith
from_luma_less absent some h eights = absurd some

-- a plane is not longer in a direction than the luma plane
pub from_luma_most : (s : Sampling) {n m : ℕ} → n ≤ m → from_luma s n ≤ m
from_luma_most whole h = h
from_luma_most halved h = omega arith
from_luma_most absent h = omega arith
