-- What private functions compute. No public contract cites this module.
use Rattle.std.specs.Prelude.{ℕ, cond, eqb, pos}
use Rattle.ints.specs.Int.{◌⊖◌}
use Rattle.ints.specs.Sample.{largest_at}
use Rattle.thresholds.specs.Luma.{luma_tc}
use Rattle.lines.specs.declared.Line.{Line}
use Rattle.lines.specs.Decision.{Decision, decision}
use Rattle.bench_record.specs.declared.fields.Head.{Head}
use Rattle.bench.specs.declared.segment.Thresholds.{Thresholds}
use Rattle.bench.specs.Bench.{record_beta, printed_tc, no_filter}

-- the tc that is printed, of an average QP's byte
unfoldable pub tc_or_zero : ℕ → ℕ → ℕ → ℕ → ℕ
tc_or_zero depth average bs offset = cond (eqb bs 0) 0 (luma_tc depth (average ⊖ 64) (pos bs) (offset ⊖ 6))

-- the thresholds, with the tc that is printed
abbrev pub thresholds_of : Head → Thresholds
thresholds_of h = record { beta = record_beta h; tc = printed_tc h; largest = largest_at h.depth }

-- the decision, of the tc that is printed
unfoldable pub decision_or_skip : ℕ → ℕ → Line → Line → Decision
decision_or_skip β tc l0 l3 = cond (eqb tc 0) no_filter (decision β tc l0 l3)
