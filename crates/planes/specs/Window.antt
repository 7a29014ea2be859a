-- A segment's window in a list: 8 samples across the edge by 4 lines along it, and what it is to filter it in place.
use Rattle.std.specs.Prelude.{ℕ, ◌+◌, ◌*◌, ◌<◌, min, ◌≡◌, List, length, get_or}
use Rattle.std.proofs.Math.Option.{Option}
use Rattle.filter.specs.Pass.{applied}
use Rattle.picture.specs.Plane.{Plane}

-- where sample i of line j stands: `base` is p3 of line 0; `across` and `along` are the strides across the edge and
-- along it
abbrev pub spot : ℕ → ℕ → ℕ → ℕ → ℕ → ℕ
spot base across along i j = base + j * along + i * across

-- the window in a list; nothing past its 32 samples can be read
unfoldable pub window_at : List ℕ → ℕ → ℕ → ℕ → Plane
window_at list base across along i j = get_or list (spot base across along (min i 7) (min j 3)) 0

-- strides at which a window's 32 samples stand apart
pub record Strides (across along : ℕ) : Type 0 where
  pub step : 0 < across
  pub apart : (k l m n : ℕ) → k < 8 → l < 4 → m < 8 → n < 4 → l * along + k * across ≡ n * along + m * across
      → (k ≡ m) × (l ≡ n)

-- `after` is `before` with the first n lines of the window filtered by f, and nothing else changed
pub record Filtered (n : ℕ) (f : Plane → Plane) (base across along : ℕ) (before after : List ℕ) : Type 0 where
  pub len : length after ≡ length before
  pub within : (i j : ℕ) → i < 8 → j < n
      → get_or after (spot base across along i j) 0 ≡ f (window_at before base across along) i j
  pub beyond : (k : ℕ) → ((i j : ℕ) → i < 8 → j < n → k ≡ spot base across along i j → ⊥)
      → get_or after k 0 ≡ get_or before k 0

-- `after` is `before` with the first n samples of v written from `at`, `step` apart
pub record Put (n at step : ℕ) (v before after : List ℕ) : Type 0 where
  pub len : length after ≡ length before
  pub within : (k : ℕ) → k < n → get_or after (at + k * step) 0 ≡ get_or v k 0
  pub beyond : (i : ℕ) → ((k : ℕ) → k < n → i ≡ at + k * step → ⊥) → get_or after i 0 ≡ get_or before i 0

-- what a segment makes of its window: the filter's samples, or its own where it is closed
abbrev pub taken : {A : Type 0} → (A → Plane → Plane) → Option A → Plane → Plane
taken filter o W i j = applied filter o W i j (W i j)
