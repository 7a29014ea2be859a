-- Positions of a plane and of luma, one direction at a time: a tile starts at a multiple of 16 luma samples, and it
-- and the picture are multiples of 8 long. An absent plane has no position.
use Prim.Native.Nat.{ℕ, ◌+◌, ◌-◌, ◌%◌, ◌≤◌, ◌<◌}
use mathlib.Core.Path.{◌≡◌}
use native.Mathlib.Omega.{arith}
use Rattle.picture.specs.Scale.{Sampling, whole, halved, absent, to_luma, from_luma}

-- ---- lengths and starts in the plane

pub from_4 : (s : Sampling) (n : ℕ) → n % 8 ≡ 0 → from_luma s n % 4 ≡ 0
from_4 whole n h = omega arith
from_4 halved n h = omega arith
from_4 absent n h = omega arith

pub from_8 : (s : Sampling) (a : ℕ) → a % 16 ≡ 0 → from_luma s a % 8 ≡ 0
from_8 whole a h = omega arith
from_8 halved a h = omega arith
from_8 absent a h = omega arith

pub from_fits : (s : Sampling) (n a total : ℕ) → n % 8 ≡ 0 → a % 16 ≡ 0 → n + a ≤ total
    → from_luma s n + from_luma s a ≤ from_luma s total
from_fits whole n a total hn ha h = omega arith
from_fits halved n a total hn ha h = omega arith
from_fits absent n a total hn ha h = omega arith

pub from_positive : (s : Sampling) (a : ℕ) → 0 < from_luma s a → 0 < a
from_positive whole a h = omega arith
from_positive halved a h = omega arith
from_positive absent a h = omega arith

pub from_less : (s : Sampling) (n a total : ℕ) → n % 8 ≡ 0 → a % 16 ≡ 0 → total % 8 ≡ 0
    → from_luma s n + from_luma s a < from_luma s total → n + a < total
from_less whole n a total hn ha ht h = omega arith
from_less halved n a total hn ha ht h = omega arith
from_less absent n a total hn ha ht h = omega arith

-- ---- a position of the tile stays in it, scaled to luma

pub to_in : (s : Sampling) (x n : ℕ) → x < from_luma s n → to_luma s x < n
to_in whole x n h = omega arith
to_in halved x n h = omega arith
to_in absent x n h = omega arith

pub to_next_in : (s : Sampling) (l n : ℕ) → n % 8 ≡ 0 → l % 4 ≡ 0 → l < from_luma s n → to_luma s (l + 1) < n
to_next_in whole l n hn hl h = omega arith
to_next_in halved l n hn hl h = omega arith
to_next_in absent l n hn hl h = omega arith

-- ---- moving by the tile's start and scaling to luma can be exchanged

pub to_moves : (s : Sampling) (x a n : ℕ) → a % 16 ≡ 0 → x < from_luma s n
    → to_luma s x + a ≡ to_luma s (x + from_luma s a)
to_moves whole x a n ha h = omega arith
to_moves halved x a n ha h = omega arith
to_moves absent x a n ha h = omega arith

pub to_before_moves : (s : Sampling) (x a n : ℕ) → a % 16 ≡ 0 → x < from_luma s n → 0 < x
    → to_luma s x - 1 + a ≡ to_luma s (x + from_luma s a) - 1
to_before_moves whole x a n ha h k = omega arith
to_before_moves halved x a n ha h k = omega arith
to_before_moves absent x a n ha h k = omega arith

pub to_next_moves : (s : Sampling) (l a n : ℕ) → a % 16 ≡ 0 → l < from_luma s n
    → to_luma s (l + 1) + a ≡ to_luma s (l + from_luma s a + 1)
to_next_moves whole l a n ha h = omega arith
to_next_moves halved l a n ha h = omega arith
to_next_moves absent l a n ha h = omega arith

-- ---- the borders of the tile, scaled to luma

pub to_start : (s : Sampling) (a : ℕ) → a % 16 ≡ 0 → 0 < from_luma s a → to_luma s (from_luma s a) ≡ a
to_start whole a ha h = omega arith
to_start halved a ha h = omega arith
to_start absent a ha h = omega arith

pub to_end : (s : Sampling) (n a total : ℕ) → n % 8 ≡ 0 → a % 16 ≡ 0 → from_luma s n + from_luma s a < from_luma s total
    → to_luma s (from_luma s n + from_luma s a) ≡ n + a
to_end whole n a total hn ha h = omega arith
to_end halved n a total hn ha h = omega arith
to_end absent n a total hn ha h = omega arith
