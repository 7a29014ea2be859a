-- Records whose number the definition computes to. Each has the cause after its own as well, so that the order shows.
-- Assumes nothing.
use Prim.Native.Nat.{ℕ}
use mathlib.Core.Path.{◌≡◌, refl}
use mathlib.Core.List.{List, [], ◌∷◌, ◌++◌}
use Rattle.bench_record.specs.Record.{sample_at, line_of_record}
use Rattle.bench_record.specs.Refusal.{others_bad, side_above, line_above, samples_above, refusal_of}

-- the bytes before the samples, and a line four times
abbrev four_times : List ℕ → List ℕ → List ℕ
four_times first line = first ++ (line ++ (line ++ (line ++ line)))

-- p side 100, q side 104
abbrev s1_line : List ℕ
s1_line = 100 ∷ 0 ∷ 100 ∷ 0 ∷ 100 ∷ 0 ∷ 100 ∷ 0 ∷ 104 ∷ 0 ∷ 104 ∷ 0 ∷ 104 ∷ 0 ∷ 104 ∷ 0 ∷ []

-- a sample 256, which is above the largest at depth 8
abbrev high_line : List ℕ
high_line = 0 ∷ 1 ∷ 100 ∷ 0 ∷ 100 ∷ 0 ∷ 100 ∷ 0 ∷ 104 ∷ 0 ∷ 104 ∷ 0 ∷ 104 ∷ 0 ∷ 104 ∷ 0 ∷ []

-- depth 7; an offset byte 13; bS 3, a QP byte 63, a byte that is not zero; a sample 256; and case S1, which is
-- accepted
pub refusals :
    (refusal_of (four_times (7 ∷ 2 ∷ 101 ∷ 101 ∷ 13 ∷ 6 ∷ 0 ∷ 0 ∷ []) s1_line) ≡ 3)
    × (refusal_of (four_times (8 ∷ 3 ∷ 101 ∷ 101 ∷ 6 ∷ 13 ∷ 0 ∷ 0 ∷ []) s1_line) ≡ 7)
    × (refusal_of (four_times (8 ∷ 3 ∷ 101 ∷ 101 ∷ 6 ∷ 6 ∷ 0 ∷ 0 ∷ []) high_line) ≡ 9)
    × (refusal_of (four_times (8 ∷ 2 ∷ 101 ∷ 63 ∷ 6 ∷ 6 ∷ 0 ∷ 0 ∷ []) high_line) ≡ 9)
    × (refusal_of (four_times (8 ∷ 2 ∷ 101 ∷ 101 ∷ 6 ∷ 6 ∷ 0 ∷ 1 ∷ []) high_line) ≡ 9)
    × (refusal_of (four_times (8 ∷ 2 ∷ 101 ∷ 101 ∷ 6 ∷ 6 ∷ 0 ∷ 0 ∷ []) high_line) ≡ 10)
    × (refusal_of (four_times (8 ∷ 2 ∷ 101 ∷ 101 ∷ 6 ∷ 6 ∷ 0 ∷ 0 ∷ []) s1_line) ≡ 0)
unfolding refusal_of others_bad samples_above line_above side_above sample_at line_of_record
refusals = (refl, refl, refl, refl, refl, refl, refl)
