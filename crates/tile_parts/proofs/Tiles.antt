-- A tile's end in one direction.
use Prim.Native.Nat.{ℕ, suc, ◌+◌, ◌*◌, ◌≤◌, ◌<◌}
use mathlib.Core.Path.{◌≡◌, ap, ◌∙◌}
use mathlib.Core.List.{List}
use native.Mathlib.Numerals.{add-one}
use native.Mathlib.Omega.{arith}
use borrow.Author.Tests.{lt-ltb, le-ltb}
use lib.ListN.{length, get_or}
use Rattle.picture.specs.Tile.{tile_first, tile_end}

module _ (starts : List ℕ) (size total i : ℕ) where
  pub end_next : {r : ℕ} → i + 1 < length starts → r ≡ tile_first starts size (i + 1) → r ≡ tile_end starts size total i
  unfolding tile_first tile_end
  end_next h e =
      rw (lt-ltb (suc i) (length starts) (omega arith)) (e ∙ ap (λ (k : ℕ). get_or starts k 0 * size) (add-one i))

  pub end_last : length starts ≤ i + 1 → total ≡ tile_end starts size total i
  unfolding tile_end
  end_last h = rw (le-ltb (suc i) (length starts) (omega arith))
