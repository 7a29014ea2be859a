-- A window whose lines are filtered by one decision: the lines that were read, what is made of them, and the kernel.
use Prim.Native.Nat.{ℕ, ◌<◌}
use mathlib.Core.Path.{◌≡◌, refl, sym, ap, ◌∙◌, subst}
use mathlib.Core.Bool.{Bool}
use mathlib.Core.List.{List}
use lib.ListN.{get_or}
use Rattle.filter.specs.declared.LumaFilter.{LumaFilter}
use Rattle.filter.specs.Answer.{luma_of}
use Rattle.filter.specs.Kernel.{line_of, samples_of, kernel}
use Rattle.lines.specs.declared.Line.{Line}
use Rattle.lines.specs.declared.LumaAnswer.{LumaAnswer}
use Rattle.lines.specs.declared.LumaDecision.{LumaDecision}
use Rattle.lines.specs.declared.LumaDecision.TheVariants.{Skip, Strong, Weak}
use Rattle.lines.specs.Answer.{values_of}
use Rattle.lines.specs.Decision.{Decision, decision, counts_of}
use Rattle.lines.specs.Luma.{strong_line, weak_line, luma_line}
use Rattle.lines.proofs.Answer.{case_filters, decision_known, decision_answered}
use Rattle.picture.specs.Plane.{Plane}
use Rattle.picture.proofs.Index.{cases4}
use Rattle.planes.specs.Window.{window_at, Filtered}
use Rattle.planes.proofs.Windows.{filtered_as, filtered_same}
use Rattle.window_lines.specs.declared.Lines.{Lines}
use Rattle.window_lines.specs.Line.{lines_of, laid}
use Rattle.luma_windows.specs.Decided.{each, decision_at, answer_at, decided_by}
use Rattle.window_lines.proofs.InList.{sample_of_lem}

-- ---- four lines that were read, each filtered, and laid back

pub each_laid : (f : Line → Line) (base across along : ℕ) {xs ys : List ℕ} {w v : Lines}
    → w ≡ lines_of (window_at xs base across along) → v ≡ each f w → Filtered 4 (laid v) base across along xs ys
    → Filtered 4 (λ W i j. get_or (samples_of (f (line_of W j))) i 0) base across along xs ys
each_laid f base across along {xs} {ys} read made =
    let W : Plane = window_at xs base across along in
    filtered_as 4 _ _ base across along xs ys
    (λ i j hi hj.
    ap (λ (u : Lines). laid u W i j) (made ∙ ap (each f) read)
    ∙ cases4 (λ (j : ℕ). laid (each f (lines_of W)) W i j ≡ get_or (samples_of (f (line_of W j))) i 0) refl refl refl
    refl
    j hj)

-- the strong and the weak filter are those of their decisions
module _ (t : LumaFilter) (base across along : ℕ) {xs ys : List ℕ} where
  pub strong_decided :
      Filtered 4 (λ W i j. get_or (samples_of (strong_line t.tc (line_of W j))) i 0) base across along xs ys
      → Filtered 4 (decided_by (values_of Strong) t) base across along xs ys
  unfolding decided_by luma_line
  strong_decided h = h

  pub weak_decided : (p q : Bool)
      → Filtered 4 (λ W i j. get_or (samples_of (weak_line t.largest t.tc p q (line_of W j))) i 0) base across along
      xs ys
      → Filtered 4 (decided_by (values_of (Weak p q)) t) base across along xs ys
  unfolding decided_by luma_line
  weak_decided p q h = h

-- a window that is left alone
skipped : (t : LumaFilter) (W : Plane) (i j : ℕ) → i < 8 → decided_by (values_of Skip) t W i j ≡ W i j
unfolding decided_by luma_line
skipped t W i j hi = sample_of_lem W j i hi

pub none_decided : (t : LumaFilter) (base across along : ℕ) (xs : List ℕ)
    → Filtered 4 (decided_by (values_of Skip) t) base across along xs xs
none_decided t base across along xs =
    filtered_same _ base across along xs (λ i j hi hj. skipped t (window_at xs base across along) i j hi)

-- a decision that is known by another name
pub decided_as : (t : LumaFilter) (base across along : ℕ) {d e : LumaDecision} {xs ys : List ℕ} → d ≡ e
    → Filtered 4 (decided_by (values_of e) t) base across along xs ys
    → Filtered 4 (decided_by (values_of d) t) base across along xs ys
decided_as t base across along {xs = xs} {ys} same =
    subst (λ (c : LumaDecision). Filtered 4 (decided_by (values_of c) t) base across along xs ys) (sym same)

-- ---- the decision is that of lines 0 and 3, and the enum loses nothing of it

kernel_decided : (t : LumaFilter) (base across along : ℕ) {d : LumaDecision} {xs ys : List ℕ}
    → d ≡ decision_at t (window_at xs base across along)
    → Filtered 4 (decided_by (values_of d) t) base across along xs ys
    → Filtered 4 (kernel (luma_of t)) base across along xs ys
unfolding decided_by kernel
kernel_decided t base across along {d} {xs} {ys} made =
    let W : Plane = window_at xs base across along in
    let D : Decision = decision t.beta t.tc (line_of W 0) (line_of W 3) in
    filtered_as 4 _ _ base across along xs ys
    (λ i j hi hj.
    ap (λ (c : LumaDecision). get_or (samples_of (luma_line (values_of c) t.largest t.tc (line_of W j))) i 0) made
    ∙ ap (λ (r : Line). get_or (samples_of r) i 0)
    (case_filters D t.largest t.tc (line_of W j) (decision_known t.beta t.tc (line_of W 0) (line_of W 3))))

-- a window that was filtered by its decision, and what is answered of that: the decision with its counts
pub window_answered : (t : LumaFilter) (base across along : ℕ) {d : LumaDecision} {r : LumaAnswer} {xs ys : List ℕ}
    → d ≡ decision_at t (window_at xs base across along)
    → Filtered 4 (decided_by (values_of d) t) base across along xs ys
    → (r.decision ≡ d) × (r.counts ≡ counts_of (values_of d))
    → Filtered 4 (kernel (luma_of t)) base across along xs ys × (r ≡ answer_at t (window_at xs base across along))
window_answered t base across along made filtered answer =
    (kernel_decided t base across along made filtered, decision_answered _ _ _ _ made answer.0 answer.1)
