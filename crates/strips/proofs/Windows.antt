-- A segment's window in a strip: its samples stand apart, and where the segment is closed nothing is done.
use Prim.Native.Nat.{ℕ, ◌+◌, ◌≤◌}
use mathlib.Core.Path.{◌≡◌, refl, ◌∙◌, ap, subst}
use mathlib.Core.List.{List}
use mathlib.Core.Option.{Option, none, some}
use native.Mathlib.Omega.{arith}
use Rattle.std.specs.Prelude.{None, Some}
use Rattle.filter.specs.Kernel as Kernel
use Rattle.filter.specs.Kernel.{Filter, kernel, line_of}
use Rattle.filter.specs.Segment.{Direction, vertical, horizontal}
use Rattle.lines.specs.Answer.{answer_of}
use Rattle.lines.specs.Decision.{decision}
use Rattle.lines.specs.declared.LumaAnswer.{LumaAnswer}
use Rattle.strips.specs.declared.Treatment.TheVariants.{Luma}
use Rattle.strips.specs.Passed.{across_in, along_in, treatment}
use Rattle.planes.specs.Window.{window_at, Filtered, Strides, taken}
use Rattle.planes.proofs.Windows.{filtered_same}
use Rattle.planes.proofs.Strips.{apart_columns, apart_rows}
use Rattle.segments.specs.declared.Frame.{Frame}
use Rattle.segments.specs.Sides.{breadth, length_of}

-- a segment's window lies apart in a strip of the plane
pub strides_in : (d : Direction) (f : Frame) (e l : ℕ) → 8 ≤ e → e + 4 ≤ breadth d f → l + 4 ≤ length_of d f
    → Strides (across_in d f.columns) (along_in d f.columns)
strides_in vertical f e l low high room = apart_columns f.columns (omega arith)
strides_in horizontal f e l low high room = apart_rows f.columns (omega arith)

-- nothing is done in the window of a closed segment
pub untouched : (base across along : ℕ) {xs : List ℕ} {o : Option Filter} → none ≡ o
    → Filtered 4 (taken kernel o) base across along xs xs × (None ≡ treatment o (window_at xs base across along))
untouched base across along {xs} e = (
  subst (λ (o : Option Filter). Filtered 4 (taken kernel o) base across along xs xs) e
      (filtered_same _ base across along xs (λ i j hi hj. refl)),
  ap (λ (o : Option Filter). treatment o (window_at xs base across along)) e,
)

-- an open luma segment, whose filter answers its decision and its counts
pub luma : (base across along : ℕ) {xs ys : List ℕ} (β tc largest : ℕ) {o : Option Filter} {d : LumaAnswer}
    → some (Kernel.luma β tc largest) ≡ o
    → Filtered 4 (kernel (Kernel.luma β tc largest)) base across along xs ys
    → d ≡ answer_of
    (decision β tc (line_of (window_at xs base across along) 0) (line_of (window_at xs base across along) 3))
    → Filtered 4 (taken kernel o) base across along xs ys × (Some (Luma d) ≡ treatment o (window_at xs base across along))
luma base across along {xs} {ys} β tc largest e f d_is = (
  subst (λ (o : Option Filter). Filtered 4 (taken kernel o) base across along xs ys) e f,
  ap (λ d. Some (Luma d)) d_is ∙ ap (λ (o : Option Filter). treatment o (window_at xs base across along)) e,
)
