-- `put_lines`: the lines so far stand behind the text that was there.
use Rattle.std.proofs.Common.{◌≡◌, ◌++◌, ◌+◌, ◌*◌, ◌≤◌, length, take}
use Rattle.std.specs.List.{flat_map}
use Rattle.bench_lines.specs.Lines.{line_text}
use Rattle.bench_lines.proofs.put_lines.Given as goal

abbrev pub invariant-loop-line : goal.invariant-loop-line
invariant-loop-line g l =
    record {
      puts : l.out ≡ l.initial.out ++ flat_map line_text (take l.line-index l.lines);
      upper_bound : length l.out ≤ length l.initial.out + 48 * l.line-index;
    }
