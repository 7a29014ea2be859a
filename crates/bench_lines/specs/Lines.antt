-- Document 01, 'Segment bench', and document 02, C-20: the lines of text that a record prints, as bytes. Each
-- definition has the sentence that it is written from.
use Rattle.std.specs.Prelude.{ℕ, cond, List, [], ◌∷◌, ◌++◌, eqb}
use Rattle.lines.specs.declared.Line.{Line}
use Rattle.lines.specs.declared.SideCounts.{SideCounts}
use Rattle.text.specs.Text.{decimal}

-- "`skip`, `strong` or `weak`", by dE 0, 2 or 1, and a space
unfoldable pub word_text : ℕ → List ℕ
word_text d_e =
    cond (eqb d_e 0) (115 ∷ 107 ∷ 105 ∷ 112 ∷ 32 ∷ [])
    (cond (eqb d_e 2) (115 ∷ 116 ∷ 114 ∷ 111 ∷ 110 ∷ 103 ∷ 32 ∷ [])
    (119 ∷ 101 ∷ 97 ∷ 107 ∷ 32 ∷ []))

-- tc and, C-20, "both counts after tc", P's and then Q's, to the end of the line
unfoldable pub numbers_text : ℕ → SideCounts → List ℕ
numbers_text tc c = decimal tc ++ (32 ∷ decimal c.p ++ (32 ∷ decimal c.q ++ (10 ∷ [])))

-- "a first line with `skip`, `strong` or `weak` and the scaled tc"; C-20: "The bench prints both counts after tc on its
-- first line"
unfoldable pub first_text : ℕ → ℕ → SideCounts → List ℕ
first_text d_e tc c = word_text d_e ++ numbers_text tc c

-- four numbers, "split by one space", and the byte `last` after them
unfoldable pub four_text : ℕ → ℕ → ℕ → ℕ → ℕ → List ℕ
four_text a b c d last = decimal a ++ (32 ∷ decimal b ++ (32 ∷ decimal c ++ (32 ∷ decimal d ++ (last ∷ []))))

-- one line's eight samples, "numbers split by one space"
unfoldable pub line_text : Line → List ℕ
line_text l = four_text l.p3 l.p2 l.p1 l.p0 32 ++ four_text l.q0 l.q1 l.q2 l.q3 10

-- "then the four lines"
unfoldable pub lines_text : Line → Line → Line → Line → List ℕ
lines_text l0 l1 l2 l3 = line_text l0 ++ (line_text l1 ++ (line_text l2 ++ line_text l3))

-- `refused N`
unfoldable pub refused_text : ℕ → List ℕ
refused_text n = 114 ∷ 101 ∷ 102 ∷ 117 ∷ 115 ∷ 101 ∷ 100 ∷ 32 ∷ decimal n ++ (10 ∷ [])
