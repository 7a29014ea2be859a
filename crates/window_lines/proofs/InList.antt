-- Lines of samples in a list: written sample by sample, and read as the lines of a window.
use Prim.Native.Nat.{ℕ, ◌+◌, ◌*◌, ◌<◌}
use mathlib.Core.Path.{◌≡◌, refl, sym, ap, ◌∙◌}
use mathlib.Core.List.{List}
use native.Mathlib.Omega.{arith}
use lib.ListN.{length, get_or, set}
use Rattle.filter.specs.Kernel.{line_of, samples_of}
use Rattle.lines.specs.declared.Line.{Line}
use Rattle.picture.specs.Plane.{Plane}
use Rattle.picture.proofs.Index.{cases8}
use Rattle.planes.specs.Window.{spot, window_at, Put}
use Rattle.planes.proofs.Windows.{window_at_lem, put_none, put_more}
use Rattle.window_lines.specs.Line.{line_at, lines_of}

module _ (at step : ℕ) (l : Line) (xs : List ℕ) (p : 0 < step) (room : at + 7 * step < length xs) where
  abbrev v : List ℕ
  v = samples_of l

  abbrev p_side : List ℕ
  p_side = set (set (set (set xs at l.p3) (at + step) l.p2) (at + 2 * step) l.p1) (at + 3 * step) l.p0

  pub put_eight : Put 8 at step v xs
      (set (set (set (set p_side (at + 4 * step) l.q0) (at + 5 * step) l.q1) (at + 6 * step) l.q2)
      (at + 7 * step) l.q3)
  put_eight =
      let a = put_more 0 at step at v xs _ p (omega arith) (omega arith) (put_none at step v xs) in
      let b = put_more 1 at step (at + step) v xs _ p (omega arith) (omega arith) a in
      let c = put_more 2 at step (at + 2 * step) v xs _ p refl (omega arith) b in
      let d = put_more 3 at step (at + 3 * step) v xs _ p refl (omega arith) c in
      let e = put_more 4 at step (at + 4 * step) v xs _ p refl (omega arith) d in
      let f = put_more 5 at step (at + 5 * step) v xs _ p refl (omega arith) e in
      let g = put_more 6 at step (at + 6 * step) v xs _ p refl (omega arith) f in
      put_more 7 at step (at + 7 * step) v xs _ p refl (omega arith) g

-- a line that is read is a window's line where the samples are
pub line_is : (list : List ℕ) (base across along j : ℕ) (W : Plane)
    → ((i : ℕ) → i < 8 → get_or list (spot base across along i j) 0 ≡ W i j)
    → line_at list (base + j * along) across ≡ line_of W j
line_is list base across along j W h =
    let first : get_or list (base + j * along) 0 ≡ W 0 j =
    ap (λ (k : ℕ). get_or list k 0) (omega arith) ∙ h 0 (omega arith) in
    let second : get_or list (base + j * along + across) 0 ≡ W 1 j =
    ap (λ (k : ℕ). get_or list k 0) (omega arith) ∙ h 1 (omega arith) in
    λ i. record {
      p3 = first i;
      p2 = second i;
      p1 = h 2 (omega arith) i;
      p0 = h 3 (omega arith) i;
      q0 = h 4 (omega arith) i;
      q1 = h 5 (omega arith) i;
      q2 = h 6 (omega arith) i;
      q3 = h 7 (omega arith) i;
    }

-- line j of a window is read where its first sample stands
pub line_read : (xs : List ℕ) (base across along j : ℕ) {at : ℕ} {l : Line} → j < 4 → at ≡ base + j * along
    → l ≡ line_at xs at across → l ≡ line_of (window_at xs base across along) j
line_read xs base across along j hj e read =
    read
    ∙ ap (λ (i : ℕ). line_at xs i across) e
    ∙ line_is xs base across along j (window_at xs base across along)
    (λ i h. sym (window_at_lem xs base across along i j h hj))

-- all four
pub lines_read : (xs : List ℕ) (base across along : ℕ) {a b c d : Line}
    → a ≡ line_at xs base across → b ≡ line_at xs (base + along) across
    → c ≡ line_at xs (base + 2 * along) across → d ≡ line_at xs (base + 3 * along) across
    → record { l0 = a; l1 = b; l2 = c; l3 = d } ≡ lines_of (window_at xs base across along)
lines_read xs base across along ra rb rc rd =
    λ i. record {
      l0 = line_read xs base across along 0 (omega arith) (omega arith) ra i;
      l1 = line_read xs base across along 1 (omega arith) (omega arith) rb i;
      l2 = line_read xs base across along 2 (omega arith) refl rc i;
      l3 = line_read xs base across along 3 (omega arith) refl rd i;
    }

-- a line of a window has the window's samples
pub sample_of_lem : (W : Plane) (j i : ℕ) → i < 8 → get_or (samples_of (line_of W j)) i 0 ≡ W i j
sample_of_lem W j =
    cases8 (λ (i : ℕ). get_or (samples_of (line_of W j)) i 0 ≡ W i j) refl refl refl refl refl refl refl refl
