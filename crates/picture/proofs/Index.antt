-- Indices of rows of w samples: sample x of row y stands at y * w + x. Products of two variables are nothing to
-- `omega`, so what is known of them is here.
use mathlib.Core.Path.{◌≡◌, ap, ◌∙◌}
use mathlib.Core.Logic.{◌⊎◌, inl, inr, ⊎_elim}
use Prim.Native.Nat.{ℕ, ◌+◌, ◌-◌, ◌*◌, ◌≤◌, ◌<◌}
use native.Mathlib.Nat.{mul-le-mul_right, add-mul, mul-lt-mul_of_pos_right}
use native.Mathlib.Omega.{arith}
use borrow.Author.Count.{below_none, below_more}
use Rattle.ints.proofs.Laws.{either}

-- two different numbers, one is the less
pub apart : (a b : ℕ) → (a ≡ b → ⊥) → (a < b) ⊎ (b < a)
apart a b n = ⊎_elim inl (λ h. inr (omega (arith, n))) (either a b)

-- a later row starts at least a row further on
pub row_step : (w : ℕ) {r q : ℕ} → r < q → r * w + w ≤ q * w
row_step w {r} {q} h =
    let m : (r + 1) * w ≤ q * w = mul-le-mul_right w (omega arith) in
    let d : (r + 1) * w ≡ r * w + 1 * w = add-mul r 1 w in
    omega arith

-- rows in order
pub row_le : (w : ℕ) {r q : ℕ} → r ≤ q → r * w ≤ q * w
row_le w h = mul-le-mul_right w h

-- n rows further on
pub rows_on : (w lo r n : ℕ) → lo ≤ r → (r + n - lo) * w ≡ (r - lo) * w + n * w
rows_on w lo r n h =
    let e : r + n - lo ≡ r - lo + n = omega arith in
    ap (λ (k : ℕ). k * w) e ∙ add-mul (r - lo) n w

-- from one row to another
pub rows_between : (w : ℕ) {r q : ℕ} → r ≤ q → q * w ≡ r * w + (q - r) * w
rows_between w {r} {q} h =
    let e : q ≡ r + (q - r) = omega arith in
    ap (λ (k : ℕ). k * w) e ∙ add-mul r (q - r) w

-- a sample of one of n rows stands within them
pub within_rows : (w n r x : ℕ) → r < n → x < w → r * w + x < n * w
within_rows w n r x h k = let m : r * w + w ≤ n * w = row_step w h in omega arith

-- one index, one column and one row
pub same_row : (w r q x y : ℕ) → x < w → y < w → r * w + x ≡ q * w + y → r ≡ q
same_row w r q x y hx hy e =
    ⊎_elim (λ h. let m : r * w + w ≤ q * w = row_step w h in omega arith)
    (λ h.
    ⊎_elim (λ g. let m : q * w + w ≤ r * w = row_step w g in omega arith) (λ g. omega arith) (either q r))
    (either r q)

pub same_column : (w r q x y : ℕ) → x < w → y < w → r * w + x ≡ q * w + y → x ≡ y
same_column w r q x y hx hy e =
    let m : r * w ≡ q * w = ap (λ (n : ℕ). n * w) (same_row w r q x y hx hy e) in omega arith

-- different multiples of a step
pub multiples : (step : ℕ) {k j : ℕ} → 0 < step → k < j → k * step < j * step
multiples step p h = mul-lt-mul_of_pos_right h p

-- by cases
pub cases4 : (P : ℕ → Type 0) → P 0 → P 1 → P 2 → P 3 → (k : ℕ) → k < 4 → P k
cases4 P p0 p1 p2 p3 = below_more P 3 (below_more P 2 (below_more P 1 (below_more P 0 (below_none P) p0) p1) p2) p3

pub cases8 : (P : ℕ → Type 0) → P 0 → P 1 → P 2 → P 3 → P 4 → P 5 → P 6 → P 7 → (k : ℕ) → k < 8 → P k
cases8 P p0 p1 p2 p3 p4 p5 p6 p7 =
    below_more P 7 (below_more P 6 (below_more P 5 (below_more P 4 (cases4 P p0 p1 p2 p3) p4) p5) p6) p7
