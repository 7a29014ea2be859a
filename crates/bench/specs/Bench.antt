-- Document 01, 'Segment bench', and document 02, C-20: what the program prints for the bytes of one record. Each
-- definition has the sentence that it is written from.
use Rattle.std.specs.Prelude.{ℕ, false, cond, ◌||◌, List, [], ◌∷◌, ◌++◌, ltb, eqb, length, ℤ, pos}
use Rattle.ints.specs.Int.{◌⊖◌}
use Rattle.ints.specs.Sample.{largest_at}
use Rattle.thresholds.specs.Luma.{average_qp, luma_beta, luma_tc}
use Rattle.lines.specs.declared.Line.{Line}
use Rattle.lines.specs.Decision.{Decision, decision, counts_of}
use Rattle.lines.specs.Luma.{luma_line}
use Rattle.bench_record.specs.declared.fields.Head.{Head}
use Rattle.bench_record.specs.Record.{head_of, line_of_record}
use Rattle.bench_record.specs.Refusal.{refusal_of}
use Rattle.bench_lines.specs.Lines.{first_text, lines_text, refused_text}

-- ---- the segment: 'Luma', with the record's offsets for those of Q's slice

-- "QP is (QpP + QpQ + 1) >> 1."
unfoldable pub record_qp : Head → ℤ
record_qp h = average_qp (h.qpp ⊖ 64) (h.qpq ⊖ 64)

unfoldable pub record_beta : Head → ℕ
record_beta h = luma_beta h.depth (record_qp h) (h.beta ⊖ 6)

-- "the scaled tc"
unfoldable pub record_tc : Head → ℕ
record_tc h = luma_tc h.depth (record_qp h) (pos h.bs) (h.tc ⊖ 6)

-- "(`skip 0` when bS or tc is 0)": the tc that is printed
unfoldable pub printed_tc : Head → ℕ
printed_tc h = cond (eqb h.bs 0) 0 (record_tc h)

-- dE 0
abbrev pub no_filter : Decision
no_filter = record { d_e = 0; d_ep = false; d_eq = false }

-- "`skip` .. when bS or tc is 0"; else "The decision reads lines 0 and 3 only and holds for all four lines"
unfoldable pub record_decision : Head → Line → Line → Decision
record_decision h l0 l3 =
    cond (eqb h.bs 0 || eqb (record_tc h) 0) no_filter (decision (record_beta h) (record_tc h) l0 l3)

-- ---- the text

-- "a first line with `skip`, `strong` or `weak` and the scaled tc (`skip 0` when bS or tc is 0), then the four lines
-- after filtering"; C-20: "both counts after tc", of the same decision
unfoldable pub segment_text : List ℕ → List ℕ
segment_text r =
    let h : Head = head_of r in
    let d : Decision = record_decision h (line_of_record r 0) (line_of_record r 3) in
    let filtered : ℕ → Line = λ j. luma_line d (largest_at h.depth) (record_tc h) (line_of_record r j) in
    first_text d.d_e (printed_tc h) (counts_of d) ++ lines_text (filtered 0) (filtered 1) (filtered 2) (filtered 3)

-- `short`
abbrev pub short_text : List ℕ
short_text = 115 ∷ 104 ∷ 111 ∷ 114 ∷ 116 ∷ 10 ∷ []

-- of a whole record: "A bad record prints only `refused N`"
unfoldable pub record_text : List ℕ → List ℕ
record_text r = cond (eqb (refusal_of r) 0) (segment_text r) (refused_text (refusal_of r))

-- of the bytes that were left to read, 72 at most: "A short last record prints `short`; empty input prints nothing."
unfoldable pub bench_text : List ℕ → List ℕ
bench_text r = cond (eqb (length r) 0) [] (cond (ltb (length r) 72) short_text (record_text r))
