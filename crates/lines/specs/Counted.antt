-- What a pair of counts (document 02, C-20) says of a line: "how many samples next to the edge" may be changed.
use Rattle.std.specs.Prelude.{ℕ, ◌≤◌, ◌≡◌, [], ◌∷◌, get_or}
use Rattle.lines.specs.declared.Line.{Line}
use Rattle.lines.specs.declared.SideCounts.{SideCounts}

-- sample i of a side's four, from the edge outwards: 0 is next to it; from 4 on there is none, and it reads as 0
abbrev pub from_edge : ℕ → ℕ → ℕ → ℕ → ℕ → ℕ
from_edge x0 x1 x2 x3 i = get_or (x0 ∷ x1 ∷ x2 ∷ x3 ∷ []) i 0

abbrev pub p_from_edge : Line → ℕ → ℕ
p_from_edge l = from_edge l.p0 l.p1 l.p2 l.p3

abbrev pub q_from_edge : Line → ℕ → ℕ
q_from_edge l = from_edge l.q0 l.q1 l.q2 l.q3

-- of two lines, all samples beyond the counted ones are the same
pub record SameBeyond (counts : SideCounts) (before after : Line) : Type 0 where
  pub p_same : (i : ℕ) → counts.p ≤ i → p_from_edge after i ≡ p_from_edge before i
  pub q_same : (i : ℕ) → counts.q ≤ i → q_from_edge after i ≡ q_from_edge before i
