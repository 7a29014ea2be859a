-- The rows of tables 8-12 and 8-10.
use Prim.Native.Nat.{ℕ, zero, suc, ◌+◌, ◌≤◌, ◌<◌}
use mathlib.Core.Path.{◌≡◌, refl, sym, ◌∙◌, ap}
use mathlib.Core.Bool.{Bool, true, false, cond}
use mathlib.Core.List.{List, [], ◌∷◌}
use mathlib.Core.Logic.{◌⊎◌, inl, inr}
use native.Mathlib.Omega.{arith}
use native.Mathlib.Nat.{zero-add}
use lib.Dec.{eqb, leb, ltb}
use lib.ListN.{length, get_or, get_or-eq_default}
use borrow.Author.Tests.{eqb-true, leb-true, lt-ltb}
use Rattle.ints.proofs.Laws.{either}
use Rattle.thresholds.specs.Tables.{TC}

-- ---- a test of a row's number and value that every row passes, by computation

abbrev pub each : (ℕ → ℕ → Bool) → ℕ → List ℕ → Bool
each test n [] = true
each test n (x ∷ l) = cond (test n x) (each test (n + 1) l) false

both : (s t : Bool) → cond s t false ≡ true → (s ≡ true) × (t ≡ true)
both true t e = (refl, e)
both false t e = absurd (let z : ◌≡◌ {A = ℕ} 0 1 = cc in omega arith)

from : (test : ℕ → ℕ → Bool) (n : ℕ) (l : List ℕ) → each test n l ≡ true
    → (k : ℕ) → k < length l → test (n + k) (get_or l k 0) ≡ true
from test n [] e k h = absurd (omega arith)
from test n (x ∷ l) e zero h = ap (λ (m : ℕ). test m x) (omega arith) ∙ (both (test n x) _ e).0
from test n (x ∷ l) e (suc k) h =
    ap (λ (m : ℕ). test m (get_or l k 0)) (omega arith) ∙ from test (n + 1) l (both (test n x) _ e).1 k (omega arith)

pub passes : (test : ℕ → ℕ → Bool) (l : List ℕ) → each test 0 l ≡ true
    → (k : ℕ) → k < length l → test k (get_or l k 0) ≡ true
passes test l e k h = ap (λ (m : ℕ). test m (get_or l k 0)) (sym (zero-add k)) ∙ from test 0 l e k h

abbrev pub agrees : (ℕ → ℕ) → ℕ → ℕ → Bool
agrees f k x = eqb x (f k)

-- no row is above a bound that all listed rows keep to, and past the last there is nothing
pub most : (m : ℕ) (l : List ℕ) → each (λ _ x. leb x m) 0 l ≡ true → (q : ℕ) → get_or l q 0 ≤ m
most m l e q = go (either q (length l))
  where
    go : (q < length l) ⊎ (length l ≤ q) → get_or l q 0 ≤ m
    go (inl h) = leb-true _ _ (passes (λ _ x. leb x m) l e q h)
    go (inr h) = omega (arith, get_or-eq_default l 0 {n = q} h)

pub rows_most : (q : ℕ) → get_or TC q 0 ≤ 24
unfolding TC
rows_most = most 24 TC refl

-- the rows below 18 are 0
pub tc_none : (q : ℕ) → q < 18 → get_or TC q 0 ≡ 0
unfolding TC
tc_none q h =
    let row = passes (λ k x. cond (ltb k 18) (eqb x 0) true) TC refl q (omega arith) in
    eqb-true _ _ (simp (lt-ltb q 18 h) at row)
