-- Which sample of a plane moved farthest, and how far (document 02, C-23), place by place of two lists.
use Rattle.std.specs.Prelude.{ℕ, ◌≤◌, ◌<◌, min, ◌≡◌, List, length, get_or}
use Rattle.ints.specs.Sample.{distance}
use Rattle.moves.specs.declared.Move.{Move}

-- how far apart the samples at place k are
abbrev pub distances : List ℕ → List ℕ → ℕ → ℕ
distances before after k = distance (get_or before k 0) (get_or after k 0)

-- Of n distances none is above the answer's, that at its place is as large, and none before it is; of no distances the
-- answer is 0 and 0. There is one such answer (`one_answer`, proofs/Farthest).
pub record FarthestOf (far : ℕ → ℕ) (n : ℕ) (r : Move) : Type 0 where
  pub most : (k : ℕ) → k < n → far k ≤ r.distance
  pub there : 0 < n → (r.place < n) × (far r.place ≡ r.distance)
  pub first : (k : ℕ) → k < r.place → far k < r.distance
  pub none : n ≡ 0 → (r.distance ≡ 0) × (r.place ≡ 0)

-- at the places that both lists have
abbrev pub Farthest : List ℕ → List ℕ → Move → Type 0
Farthest before after r = FarthestOf (distances before after) (min (length before) (length after)) r
