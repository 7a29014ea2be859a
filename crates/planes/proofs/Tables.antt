-- A list that holds a plane is that plane's table; and a pass on the result of a pass.
use Prim.Native.Nat.{ℕ, zero, suc, ◌*◌, ◌/◌, ◌%◌, ◌<◌}
use mathlib.Core.Path.{◌≡◌, sym, ap, ◌∙◌}
use mathlib.Core.List.{List}
use native.Mathlib.Nat.{div-add-mod', mod-lt, div-lt_iff_lt-mul, mul_comm}
use native.Mathlib.Omega.{arith}
use lib.ListN.{length, get_or}
use lib.Seq.{ext_get_or}
use Rattle.picture.specs.Plane.{Plane, at, table}
use Rattle.picture.proofs.Tables.{get_d_tabulate, length-table}
use Rattle.planes.specs.Rows.{Holds}
use Rattle.planes.proofs.Bands.{Local}

-- index k of a list of rows is column k % w of row k / w
by_rows : (w h : ℕ) (list : List ℕ) (G : Plane) → 0 < w → Holds w h list G → (k : ℕ) → k < w * h
    → get_or list k 0 ≡ get_or (table w h G) k 0
unfolding table at
by_rows w h list G some held k hk =
    let row : k / w < h = (div-lt_iff_lt-mul some).1 (omega (arith, mul_comm h w)) in
    ap (λ (n : ℕ). get_or list n 0) (sym (div-add-mod' k w))
    ∙ held (k % w) (k / w) (mod-lt k some) row
    ∙ sym (get_d_tabulate (w * h) (λ k. G (k % w) (k / w)) k hk)

pub holds_table : (w h : ℕ) (list : List ℕ) (G : Plane) → length list ≡ w * h → Holds w h list G → list ≡ table w h G
holds_table zero h list G len held =
    ext_get_or 0 list (table 0 h G) (len ∙ sym (length-table 0 h G)) (λ k hk. absurd (omega arith))
holds_table (suc v) h list G len held =
    ext_get_or 0 list (table (suc v) h G) (len ∙ sym (length-table (suc v) h G))
    (λ k hk. by_rows (suc v) h list G (omega arith) held k (omega arith))

-- xs holds G, and ys holds T of xs: ys holds T of G
pub holds_then : (w h : ℕ) (T : Plane → Plane) (G : Plane) (xs ys : List ℕ) → Local w 0 h T
    → Holds w h xs G → Holds w h ys (T (at xs w)) → Holds w h ys (T G)
holds_then w h T G xs ys loc first second x y hx hy =
    second x y hx hy ∙ loc (at xs w) G (λ c r d. first c r d.0 d.2) x y (hx, omega arith, hy)
