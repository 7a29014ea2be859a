-- What the proofs of the functions rest on, over plain variables: the thresholds, the decision, and the texts that
-- calls put together.
-- Assumes nothing.
use Prim.Native.Nat.{ℕ, ◌≤◌, ◌<◌}
use mathlib.Core.Path.{◌≡◌, refl, sym, ◌∙◌}
use mathlib.Core.Bool.{Bool, true, false, cond, ◌||◌}
use mathlib.Core.List.{List, [], ◌++◌, append-nil, map}
use Rattle.std.specs.List.{flat_map}
use native.Mathlib.Omega.{arith}
use lib.Dec.{eqb}
use lib.ListN.{length}
use borrow.Author.Tests.{eq-eqb, ne_eqb, lt-ltb, le-ltb}
use Rattle.ints.specs.Int.{◌⊖◌}
use Rattle.ints.specs.Sample.{largest_at}
use Rattle.thresholds.specs.Luma.{average_qp, luma_beta}
use Rattle.lines.specs.declared.Line.{Line}
use Rattle.lines.specs.declared.LumaAnswer.{LumaAnswer}
use Rattle.lines.specs.Answer.{values_of, case_of, answer_of}
use Rattle.lines.specs.Decision.{Decision, decision}
use Rattle.lines.specs.Luma.{luma_line}
use Rattle.lines.proofs.Answer.{case_filters, case_keeps, decision_known}
use Rattle.bench_record.specs.declared.fields.Head.{Head}
use Rattle.bench_record.specs.Record.{head_of, line_of_record, lines_of}
use Rattle.bench_record.specs.Refusal.{refusal_of}
use Rattle.bench_record.specs.declared.refusal.RecordRefusal.{RecordRefusal}
use Rattle.bench_record.specs.declared.refusal.RecordRefusal.TheVariants.{Depth, Offsets, Others, Sample}
use Rattle.bench_record.specs.Numbered.{number_of}
use Rattle.bench_lines.specs.Lines.{first_text, line_text, lines_text, refused_text}
use Rattle.bench.specs.declared.segment.Thresholds.{Thresholds}
use Rattle.bench.specs.Bench.{record_qp, record_beta, record_tc, printed_tc, no_filter, record_decision}
use Rattle.bench.specs.Bench.{segment_text, record_text, short_text, bench_text}
use Rattle.bench.specs.Code.{tc_or_zero, thresholds_of, decision_or_skip}

-- ---- the thresholds, of what the calls gave

pub thresholds_made : (h : Head) (a : ℕ) {b t m : ℕ}
    → a ⊖ 64 ≡ average_qp (h.qpp ⊖ 64) (h.qpq ⊖ 64)
    → b ≡ luma_beta h.depth (a ⊖ 64) (h.beta ⊖ 6)
    → t ≡ tc_or_zero h.depth a h.bs h.tc
    → m ≡ largest_at h.depth
    → record { beta = b; tc = t; largest = m } ≡ thresholds_of h
unfolding record_beta printed_tc record_tc record_qp tc_or_zero
thresholds_made h a ea eb et em = rw (eb, et, em, ea) refl

-- ---- the decision: the code goes by the tc that is printed, which is 0 where bS is

by_printed : (b : Bool) (β t : ℕ) (k m : Line)
    → cond (eqb (cond b 0 t) 0) no_filter (decision β (cond b 0 t) k m)
    ≡ cond (b || eqb t 0) no_filter (decision β t k m)
by_printed true β t k m = refl
by_printed false β t k m = refl

decided_is : (h : Head) (k m : Line) → decision_or_skip (record_beta h) (printed_tc h) k m ≡ record_decision h k m
unfolding decision_or_skip printed_tc record_decision
decided_is h k m = by_printed (eqb h.bs 0) (record_beta h) (record_tc h) k m

-- dE is 0, 1 or 2
known : (t : Bool) (d : Decision) → d.d_e ≤ 2 → (cond t no_filter d).d_e ≤ 2
known true d h = omega arith
known false d h = h

decision_of_known : (h : Head) (k m : Line) → (record_decision h k m).d_e ≤ 2
unfolding record_decision
decision_of_known h k m =
    known (eqb h.bs 0 || eqb (record_tc h) 0) _ (decision_known (record_beta h) (record_tc h) k m)

-- ---- the lines: a segment that is not filtered is not by either tc

as_printed : (b z : Bool) (d : Decision) (largest t : ℕ) (l : Line)
    → luma_line (cond (b || z) no_filter d) largest (cond b 0 t) l ≡ luma_line (cond (b || z) no_filter d) largest t l
unfolding luma_line
as_printed true z d largest t l = refl
as_printed false z d largest t l = refl

filtered_is : (h : Head) (k m : Line) (largest : ℕ) (l : Line)
    → luma_line (values_of (case_of (record_decision h k m))) largest (printed_tc h) l
    ≡ luma_line (record_decision h k m) largest (record_tc h) l
unfolding printed_tc record_decision
filtered_is h k m largest l =
    case_filters (record_decision h k m) largest (printed_tc h) l (decision_of_known h k m)
    ∙ as_printed (eqb h.bs 0) (eqb (record_tc h) 0) _ largest (record_tc h) l

-- ---- the text of a segment, of what the calls gave

-- a line as the code filters it
abbrev coded : LumaAnswer → Thresholds → Line → Line
coded d t l = luma_line (values_of d.decision) t.largest t.tc l

pub segment_made : (r : List ℕ) {h : Head} {t : Thresholds} {ls fs : List Line} {d : LumaAnswer}
    → h ≡ head_of r → t ≡ thresholds_of h → ls ≡ lines_of r
    → d ≡ answer_of (decision_or_skip t.beta t.tc (line_of_record r 0) (line_of_record r 3))
    → fs ≡ map (coded d t) ls
    → first_text (values_of d.decision).d_e t.tc d.counts ++ flat_map line_text fs ≡ segment_text r
unfolding segment_text lines_text
segment_made r eh et el ed ef =
    let h : Head = head_of r in
    let k : Line = line_of_record r 0 in
    let m : Line = line_of_record r 3 in
    rw (ef, ed, et, el, eh, decided_is h k m)
    (simp (case_keeps (record_decision h k m) (decision_of_known h k m), filtered_is h k m, append-nil) refl)

-- ---- the text of a record

pub text_accepted : (r : List ℕ) → 0 ≡ refusal_of r → segment_text r ≡ record_text r
unfolding record_text
text_accepted r e = simp (eq-eqb (refusal_of r) 0 (sym e))

pub text_refused : (r : List ℕ) (refusal : RecordRefusal) {n : ℕ} → n ≡ number_of refusal → number_of refusal ≡ refusal_of r
    → refused_text n ≡ record_text r
unfolding record_text
text_refused r refusal en e =
    simp (ne_eqb (refusal_of r) 0 (λ z. some refusal (e ∙ z)), en ∙ e)
  where
    some : (refusal : RecordRefusal) → number_of refusal ≡ 0 → ⊥
    some Depth z = omega (arith, z)
    some Offsets z = omega (arith, z)
    some Others z = omega (arith, z)
    some Sample z = omega (arith, z)

-- ---- the text of what was left to read

pub text_whole : (r : List ℕ) → 72 ≤ length r → record_text r ≡ bench_text r
unfolding bench_text
text_whole r h = simp (ne_eqb (length r) 0 (λ z. omega (arith, h, z)), le-ltb (length r) 72 h)

pub text_short : (r : List ℕ) → length r < 72 → eqb (length r) 0 ≡ false → short_text ≡ bench_text r
unfolding bench_text
text_short r h e = simp (e, lt-ltb (length r) 72 h)

pub text_none : (r : List ℕ) → eqb (length r) 0 ≡ true → [] ≡ bench_text r
unfolding bench_text
text_none r e = simp e
