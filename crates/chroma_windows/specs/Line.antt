-- A chroma line in a list.
use Rattle.std.specs.Prelude.{ℕ, ◌+◌, ◌*◌, List, get_or}
use Rattle.lines.specs.declared.ChromaLine.{ChromaLine}

-- the four samples around a chroma edge, from p1 at `at`
abbrev pub chroma_line_at : List ℕ → ℕ → ℕ → ChromaLine
chroma_line_at list at step = record {
  p1 = get_or list at 0;
  p0 = get_or list (at + step) 0;
  q0 = get_or list (at + 2 * step) 0;
  q1 = get_or list (at + 3 * step) 0;
}
