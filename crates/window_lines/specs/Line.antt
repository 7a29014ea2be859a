-- Lines of samples in a list, `step` apart, and the four lines of a window.
use Rattle.std.specs.Prelude.{ℕ, zero, suc, ◌+◌, ◌*◌, List, get_or}
use Rattle.filter.specs.Kernel.{line_of, samples_of}
use Rattle.lines.specs.declared.Line.{Line}
use Rattle.picture.specs.Plane.{Plane}
use Rattle.window_lines.specs.declared.Lines.{Lines}

-- the eight samples from `at`
abbrev pub line_at : List ℕ → ℕ → ℕ → Line
line_at list at step = record {
  p3 = get_or list at 0;
  p2 = get_or list (at + step) 0;
  p1 = get_or list (at + 2 * step) 0;
  p0 = get_or list (at + 3 * step) 0;
  q0 = get_or list (at + 4 * step) 0;
  q1 = get_or list (at + 5 * step) 0;
  q2 = get_or list (at + 6 * step) 0;
  q3 = get_or list (at + 7 * step) 0;
}

-- ---- the four lines of a window

abbrev pub lines_of : Plane → Lines
lines_of W = record { l0 = line_of W 0; l1 = line_of W 1; l2 = line_of W 2; l3 = line_of W 3 }

abbrev pub line_in : Lines → ℕ → Line
line_in w zero = w.l0
line_in w (suc zero) = w.l1
line_in w (suc (suc zero)) = w.l2
line_in w (suc (suc (suc j))) = w.l3

-- they are laid there, whatever stood in their place
abbrev pub laid : Lines → Plane → Plane
laid w W i j = get_or (samples_of (line_in w j)) i 0
