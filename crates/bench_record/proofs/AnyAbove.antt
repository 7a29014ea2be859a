-- One of a list is above the largest sample: the list's tests, joined as the definitions of a line and of the four
-- lines join them. Assumes nothing.
use Rattle.std.specs.Prelude.{ℕ, ◌≡◌, refl, Bool, true, false, ◌||◌, List, [], ◌∷◌, ltb}
use Rattle.std.specs.List.{list_any}
use Rattle.lines.specs.declared.Line.{Line}
use Rattle.bench_record.specs.Record.{line_of_record, lines_of}
use Rattle.bench_record.specs.Refusal.{side_above, line_above, samples_above}

four : (a b c d : Bool) → (a || (b || (c || (d || false)))) ≡ (a || b || c || d)
four true b c d = refl
four false true c d = refl
four false false true d = refl
four false false false true = refl
four false false false false = refl

eight : (a b c d e f g h : Bool)
    → (a || (b || (c || (d || (e || (f || (g || (h || false)))))))) ≡ ((a || b || c || d) || (e || f || g || h))
eight true b c d e f g h = refl
eight false true c d e f g h = refl
eight false false true d e f g h = refl
eight false false false true e f g h = refl
eight false false false false e f g h = four e f g h

pub line_any : (largest : ℕ) (l : Line)
    → list_any (ltb largest) (l.p3 ∷ l.p2 ∷ l.p1 ∷ l.p0 ∷ l.q0 ∷ l.q1 ∷ l.q2 ∷ l.q3 ∷ []) ≡ line_above largest l
unfolding line_above side_above
line_any largest l =
    let above : ℕ → Bool = ltb largest in
    eight (above l.p3) (above l.p2) (above l.p1) (above l.p0) (above l.q0) (above l.q1) (above l.q2) (above l.q3)

pub record_any : (largest : ℕ) (r : List ℕ) → list_any (line_above largest) (lines_of r) ≡ samples_above largest r
unfolding samples_above
record_any largest r =
    let above : ℕ → Bool = λ j. line_above largest (line_of_record r j) in
    four (above 0) (above 1) (above 2) (above 3)
