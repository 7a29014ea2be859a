-- A window that is turned: its four lines side by side in a list of 32 samples.
use Prim.Native.Nat.{ℕ, ◌<◌}
use mathlib.Core.Path.{◌≡◌, ap, ◌∙◌}
use mathlib.Core.List.{List}
use native.Mathlib.Omega.{arith}
use lib.ListN.{get_or}
use Rattle.filter.specs.declared.LumaFilter.{LumaFilter}
use Rattle.filter.specs.Kernel.{line_of, samples_of}
use Rattle.lines.specs.declared.Line.{Line}
use Rattle.lines.specs.Decision.{Decision}
use Rattle.lines.specs.Luma.{luma_line}
use Rattle.picture.specs.Plane.{Plane}
use Rattle.planes.specs.Window.{window_at, Filtered}
use Rattle.planes.proofs.Windows.{window_at_lem, filtered_as}
use Rattle.window_lines.specs.Line.{line_at}
use Rattle.luma_windows.specs.Decided.{decided_by, shown, Turned}
use Rattle.window_lines.proofs.InList.{line_read, sample_of_lem}

-- line j of a turned list is the line j of the window that it shows
pub shown_line : (ts : List ℕ) (j : ℕ) {l : Line} → j < 4 → l ≡ line_at ts j 4
    → (i : ℕ) → i < 8 → get_or (samples_of l) i 0 ≡ window_at ts 0 4 1 i j
shown_line ts j hj read i hi =
    ap (λ (r : Line). get_or (samples_of r) i 0) (line_read ts 0 4 1 j hj (omega arith) read)
    ∙ sample_of_lem (window_at ts 0 4 1) j i hi

-- what is filtered in the turned list and shown again is the window filtered
module _ (D : Decision) (t : LumaFilter) (base along : ℕ) (xs : List ℕ) {ys ts us : List ℕ}
    (turned : Turned (window_at xs base 1 along) ts)
    (made : Filtered 4 (decided_by D t) 0 4 1 ts us) (back : Filtered 4 (shown us) base 1 along xs ys) where
  abbrev window : Plane
  window = window_at xs base 1 along

  abbrev copy : Plane
  copy = window_at ts 0 4 1

  same : (i j : ℕ) → i < 8 → j < 4 → copy i j ≡ window i j
  same i j hi hj = window_at_lem ts 0 4 1 i j hi hj ∙ turned i j hi hj

  line : (j : ℕ) → j < 4 → line_of copy j ≡ line_of window j
  line j hj = λ k. record {
    p3 = same 0 j (omega arith) hj k;
    p2 = same 1 j (omega arith) hj k;
    p1 = same 2 j (omega arith) hj k;
    p0 = same 3 j (omega arith) hj k;
    q0 = same 4 j (omega arith) hj k;
    q1 = same 5 j (omega arith) hj k;
    q2 = same 6 j (omega arith) hj k;
    q3 = same 7 j (omega arith) hj k;
  }

  agree : (i j : ℕ) → i < 8 → j < 4 → shown us window i j ≡ decided_by D t window i j
  unfolding decided_by
  agree i j hi hj =
      window_at_lem us 0 4 1 i j hi hj
      ∙ made.within i j hi hj
      ∙ ap (λ (r : Line). get_or (samples_of (luma_line D t.largest t.tc r)) i 0) (line j hj)

  pub turned_decided : Filtered 4 (decided_by D t) base 1 along xs ys
  turned_decided = filtered_as 4 _ _ base 1 along xs ys agree back
