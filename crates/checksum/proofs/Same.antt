-- Planes with the same samples have the same sum, whatever they hold beside their columns and rows.
use Rattle.std.proofs.Common.{◌≡◌, ℕ, ◌%◌, ◌^◌, ◌<◌, ap}
use Rattle.ints.proofs.Sums.{sum_ext}
use Rattle.picture.specs.Plane.{Plane}
use Rattle.checksum.specs.Checksum.{checksum, exact_sum, joining, mask}

pub checksum_same : (depth w h : ℕ) (P Q : Plane) → ((x y : ℕ) → x < w → y < h → P x y ≡ Q x y)
    → checksum depth w h P ≡ checksum depth w h Q
unfolding checksum exact_sum
checksum_same depth w h P Q same =
    ap (λ (n : ℕ). n % 2 ^ 32)
    (sum_ext h _ _
    (λ y hy. sum_ext w _ _ (λ x hx. ap (λ (s : ℕ). joining depth s (mask x y)) (same x y hx hy))))
