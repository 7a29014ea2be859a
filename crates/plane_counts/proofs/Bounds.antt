-- What the two tests of a pair say.
-- Assumes nothing.
use Prim.Native.Nat.{ℕ, ◌+◌, ◌*◌, ◌≤◌}
use mathlib.Core.Path.{◌≡◌, refl}
use mathlib.Core.Bool.{Bool, true, false, ◌&&◌}
use native.Mathlib.Nat.{mul-le-mul, le_trans}
use native.Mathlib.Omega.{arith}
use borrow.Author.Tests.{leb-true}
use lib.Dec.{leb}
use Rattle.plane_counts.specs.declared.pairs.Pair.{Pair}
use Rattle.plane_counts.specs.Pairs.{small, inside, Fitting}

-- two tests that hold together
both : (a b : Bool) → a && b ≡ true → (a ≡ true) × (b ≡ true)
both true b e = (refl, e)
both false b e = absurd (let z : ◌≡◌ {A = ℕ} 0 1 = cc in omega arith)

at_most : (a b : ℕ) (rest : Bool) → leb a b && rest ≡ true → (a ≤ b) × (rest ≡ true)
at_most a b rest e = let two = both (leb a b) rest e in (leb-true a b two.0, two.1)

pub fitting : (pair : Pair) → small pair ≡ true → inside pair ≡ true → Fitting pair
unfolding small inside
fitting pair s i =
    let stride = at_most pair.stride 40000 (leb pair.rows 40000 && leb (pair.stride * pair.rows) 40000) s in
    let rows = at_most pair.rows 40000 (leb (pair.stride * pair.rows) 40000) stride.1 in
    let columns = at_most (pair.part.width + pair.part.x) pair.stride _ i in
    holding stride.0 rows.0 (leb-true _ _ rows.1) columns.0 (leb-true _ _ columns.1)
  where
    holding : pair.stride ≤ 40000 → pair.rows ≤ 40000 → pair.stride * pair.rows ≤ 40000
        → pair.part.width + pair.part.x ≤ pair.stride → pair.part.height + pair.part.y ≤ pair.rows
        → Fitting pair
    holding stride rows second columns down = record {
      first = le_trans (mul-le-mul (omega arith) (omega arith)) second;
      second = second;
      stride = stride;
      rows = rows;
      columns = columns;
      down = down;
    }
