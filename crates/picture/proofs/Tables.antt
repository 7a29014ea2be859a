-- Lists made of a function: how long they are, and what stands where.
use Prim.Native.Nat.{ℕ, zero, suc, ◌+◌, ◌*◌, ◌/◌, ◌%◌, ◌<◌}
use mathlib.Core.Path.{◌≡◌, refl, ap, ap₂, ◌∙◌}
use native.Mathlib.Omega.{arith}
use lib.Arith.{digits_div, digits_lt, digits_mod}
use lib.ListN.{length, get_or}
use Rattle.picture.specs.Plane.{Plane, at, tabulate, table}

pub length-tabulate : (n : ℕ) (f : ℕ → ℕ) → length (tabulate n f) ≡ n
length-tabulate zero f = refl
length-tabulate (suc n) f = ap suc (length-tabulate n (λ k. f (suc k)))

pub get_d_tabulate : (n : ℕ) (f : ℕ → ℕ) (k : ℕ) → k < n → get_or (tabulate n f) k 0 ≡ f k
get_d_tabulate zero f k h = absurd (omega arith)
get_d_tabulate (suc n) f zero h = refl
get_d_tabulate (suc n) f (suc k) h = get_d_tabulate n (λ k. f (suc k)) k (omega arith)

pub length-table : (w h : ℕ) (G : Plane) → length (table w h G) ≡ w * h
unfolding table
length-table w h G = length-tabulate (w * h) (λ k. G (k % w) (k / w))

pub at_table : (w h : ℕ) (G : Plane) (x y : ℕ) → x < w → y < h → at (table w h G) w x y ≡ G x y
unfolding table at
at_table w h G x y hx hy =
    get_d_tabulate (w * h) (λ k. G (k % w) (k / w)) (y * w + x) (omega (arith, digits_lt {q = y} {m = h} hy hx))
    ∙ ap₂ G (digits_mod y hx) (digits_div y hx)
