-- Records whose text the definitions compute to: case S1, which prints what documents 01 and 02 show, whole; one that a
-- decision for each line would print otherwise; a weak segment, S3; a skip, S6; a refusal; a short record; and none.
-- Assumes nothing.
use Prim.Native.Nat.{ℕ}
use mathlib.Core.Path.{◌≡◌, refl}
use mathlib.Core.List.{List, [], ◌∷◌, ◌++◌}
use lib.ListN.{take}
use Rattle.ints.specs.Int.{◌⊖◌, ◌⊞◌, ◌⊟◌, neg, ◌⊠◌, lt, ◌>>◌, clip3, abs, nat_of}
use Rattle.thresholds.specs.Tables.{BETA, TC}
use Rattle.thresholds.specs.Luma.{average_qp, beta_index, tc_index, scaled, luma_beta, luma_tc}
use Rattle.lines.specs.Decision.{activity, d_sam, decision, side_count}
use Rattle.lines.specs.Luma.{clip1, near, strong_line, delta0, side_delta, second, weak_by, weak_line, luma_line}
use Rattle.text.specs.Text.{decimal_in, decimal}
use Rattle.bench_record.specs.Record.{sample_at, line_of_record}
use Rattle.bench_record.specs.Refusal.{others_bad, side_above, line_above, samples_above, refusal_of}
use Rattle.bench.specs.Bench.{record_qp, record_beta, record_tc, printed_tc, record_decision}
use Rattle.bench_lines.specs.Lines.{word_text, numbers_text, first_text, four_text, line_text, lines_text, refused_text}
use Rattle.bench.specs.Bench.{segment_text, short_text, record_text, bench_text}

-- depth 8, bS 2, both QP 37, offsets 0
abbrev s1_head : List ℕ
s1_head = 8 ∷ 2 ∷ 101 ∷ 101 ∷ 6 ∷ 6 ∷ 0 ∷ 0 ∷ []

-- p side 100, q side 104
abbrev s1_line : List ℕ
s1_line = 100 ∷ 0 ∷ 100 ∷ 0 ∷ 100 ∷ 0 ∷ 100 ∷ 0 ∷ 104 ∷ 0 ∷ 104 ∷ 0 ∷ 104 ∷ 0 ∷ 104 ∷ 0 ∷ []

-- p1 is 110, so that by itself this line would be skipped
abbrev rough_line : List ℕ
rough_line = 100 ∷ 0 ∷ 100 ∷ 0 ∷ 110 ∷ 0 ∷ 100 ∷ 0 ∷ 104 ∷ 0 ∷ 104 ∷ 0 ∷ 104 ∷ 0 ∷ 104 ∷ 0 ∷ []

-- `strong 5 3 3`
abbrev strong_text : List ℕ
strong_text = 115 ∷ 116 ∷ 114 ∷ 111 ∷ 110 ∷ 103 ∷ 32 ∷ 53 ∷ 32 ∷ 51 ∷ 32 ∷ 51 ∷ 10 ∷ []

-- `100 101 101 102 103 103 104 104`
abbrev s1_text : List ℕ
s1_text =
    49 ∷ 48 ∷ 48 ∷ 32 ∷ 49 ∷ 48 ∷ 49 ∷ 32 ∷ 49 ∷ 48 ∷ 49 ∷ 32 ∷ 49 ∷ 48 ∷ 50 ∷ 32
    ∷ 49 ∷ 48 ∷ 51 ∷ 32 ∷ 49 ∷ 48 ∷ 51 ∷ 32 ∷ 49 ∷ 48 ∷ 52 ∷ 32 ∷ 49 ∷ 48 ∷ 52 ∷ 10 ∷ []

-- `100 102 104 104 104 103 104 104`
abbrev rough_text : List ℕ
rough_text =
    49 ∷ 48 ∷ 48 ∷ 32 ∷ 49 ∷ 48 ∷ 50 ∷ 32 ∷ 49 ∷ 48 ∷ 52 ∷ 32 ∷ 49 ∷ 48 ∷ 52 ∷ 32
    ∷ 49 ∷ 48 ∷ 52 ∷ 32 ∷ 49 ∷ 48 ∷ 51 ∷ 32 ∷ 49 ∷ 48 ∷ 52 ∷ 32 ∷ 49 ∷ 48 ∷ 52 ∷ 10 ∷ []

-- S3: q side 113, `weak 5 2 2` and `100 100 102 105 108 111 113 113`
abbrev s3_line : List ℕ
s3_line = 100 ∷ 0 ∷ 100 ∷ 0 ∷ 100 ∷ 0 ∷ 100 ∷ 0 ∷ 113 ∷ 0 ∷ 113 ∷ 0 ∷ 113 ∷ 0 ∷ 113 ∷ 0 ∷ []

abbrev weak_text : List ℕ
weak_text = 119 ∷ 101 ∷ 97 ∷ 107 ∷ 32 ∷ 53 ∷ 32 ∷ 50 ∷ 32 ∷ 50 ∷ 10 ∷ []

abbrev s3_text : List ℕ
s3_text =
    49 ∷ 48 ∷ 48 ∷ 32 ∷ 49 ∷ 48 ∷ 48 ∷ 32 ∷ 49 ∷ 48 ∷ 50 ∷ 32 ∷ 49 ∷ 48 ∷ 53 ∷ 32
    ∷ 49 ∷ 48 ∷ 56 ∷ 32 ∷ 49 ∷ 49 ∷ 49 ∷ 32 ∷ 49 ∷ 49 ∷ 51 ∷ 32 ∷ 49 ∷ 49 ∷ 51 ∷ 10 ∷ []

-- S6: both QP 15, `skip 0 0 0` and `100 100 100 100 104 104 104 104`
abbrev s6_head : List ℕ
s6_head = 8 ∷ 2 ∷ 79 ∷ 79 ∷ 6 ∷ 6 ∷ 0 ∷ 0 ∷ []

abbrev skip_text : List ℕ
skip_text = 115 ∷ 107 ∷ 105 ∷ 112 ∷ 32 ∷ 48 ∷ 32 ∷ 48 ∷ 32 ∷ 48 ∷ 10 ∷ []

abbrev s6_text : List ℕ
s6_text =
    49 ∷ 48 ∷ 48 ∷ 32 ∷ 49 ∷ 48 ∷ 48 ∷ 32 ∷ 49 ∷ 48 ∷ 48 ∷ 32 ∷ 49 ∷ 48 ∷ 48 ∷ 32
    ∷ 49 ∷ 48 ∷ 52 ∷ 32 ∷ 49 ∷ 48 ∷ 52 ∷ 32 ∷ 49 ∷ 48 ∷ 52 ∷ 32 ∷ 49 ∷ 48 ∷ 52 ∷ 10 ∷ []

-- what comes first, and four parts after it, of which 0, 2 and 3 are alike
abbrev parts : List ℕ → List ℕ → List ℕ → List ℕ
parts first line other = first ++ (line ++ (other ++ (line ++ line)))

-- S1; S1 with the rough line as line 1, which is filtered as lines 0 and 3 decide; S3; S6
pub prints :
    (bench_text (parts s1_head s1_line s1_line) ≡ parts strong_text s1_text s1_text)
    × (bench_text (parts s1_head s1_line rough_line) ≡ parts strong_text s1_text rough_text)
    × (bench_text (parts s1_head s3_line s3_line) ≡ parts weak_text s3_text s3_text)
    × (bench_text (parts s6_head s1_line s1_line) ≡ parts skip_text s6_text s6_text)
unfolding bench_text record_text refusal_of others_bad samples_above line_above side_above sample_at line_of_record
    segment_text first_text numbers_text word_text printed_tc record_tc record_beta record_qp record_decision
    lines_text line_text four_text decimal decimal_in
    average_qp beta_index tc_index scaled luma_beta luma_tc BETA TC activity d_sam decision side_count luma_line
    strong_line near clip1 delta0 side_delta second weak_by weak_line
    ◌⊖◌ ◌⊞◌ ◌⊟◌ neg ◌⊠◌ lt ◌>>◌ clip3 abs nat_of
prints = (refl, refl, refl, refl)

-- `refused 9`: bS 3; `short`: a record that is short by one byte; nothing
pub others :
    (bench_text (parts (8 ∷ 3 ∷ 101 ∷ 101 ∷ 6 ∷ 6 ∷ 0 ∷ 0 ∷ []) s1_line s1_line)
    ≡ 114 ∷ 101 ∷ 102 ∷ 117 ∷ 115 ∷ 101 ∷ 100 ∷ 32 ∷ 57 ∷ 10 ∷ [])
    × (bench_text (take 71 (parts s1_head s1_line s1_line)) ≡ short_text)
    × (bench_text [] ≡ [])
unfolding bench_text record_text refusal_of others_bad refused_text decimal decimal_in
others = (refl, refl, refl)
