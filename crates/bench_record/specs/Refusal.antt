-- Document 01, 'Segment bench': "A bad record prints only `refused N`: 3 depth, 7 offsets, 9 the other bytes, 10
-- sample, in that order." The ranges are those of 'What a sheet consists of'.
use Rattle.std.specs.Prelude.{ℕ, ◌+◌, ◌*◌, ◌-◌, ◌≤◌, Bool, cond, ◌||◌, List, ltb}
use Rattle.ints.specs.Sample.{largest_at}
use Rattle.lines.specs.declared.Line.{Line}
use Rattle.bench_record.specs.declared.fields.Head.{Head}
use Rattle.bench_record.specs.Record.{head_of, line_of_record}

-- "Luma and chroma depth, each 8 to 16."
abbrev pub depth_bad : ℕ → Bool
depth_bad depth = ltb depth 8 || ltb 16 depth

-- "beta offset div2 plus 6; tc offset div2 plus 6 (each 0 to 12)"
abbrev pub offsets_bad : ℕ → ℕ → Bool
offsets_bad beta tc = ltb 12 beta || ltb 12 tc

-- "QP runs from −6·(luma depth − 8) to 51", and its byte is 64 more
abbrev pub qp_bad : ℕ → ℕ → Bool
qp_bad depth qp = ltb qp (64 - 6 * (depth - 8)) || ltb (64 + 51) qp

-- "bS from 0 to 2", both QPs, "two zero bytes"
unfoldable pub others_bad : Head → Bool
others_bad h =
    ltb 2 h.bs
    || qp_bad h.depth h.qpp
    || qp_bad h.depth h.qpq
    || ltb 0 h.zero6
    || ltb 0 h.zero7

-- "an original sample above its largest": one of a side, of a line, of the four lines
unfoldable pub side_above : ℕ → ℕ → ℕ → ℕ → ℕ → Bool
side_above largest a b c d = ltb largest a || ltb largest b || ltb largest c || ltb largest d

unfoldable pub line_above : ℕ → Line → Bool
line_above largest l =
    side_above largest l.p3 l.p2 l.p1 l.p0 || side_above largest l.q0 l.q1 l.q2 l.q3

unfoldable pub samples_above : ℕ → List ℕ → Bool
samples_above largest r =
    line_above largest (line_of_record r 0)
    || line_above largest (line_of_record r 1)
    || line_above largest (line_of_record r 2)
    || line_above largest (line_of_record r 3)

-- N, or 0 for a record that is not refused
unfoldable pub refusal_of : List ℕ → ℕ
refusal_of r =
    let h : Head = head_of r in
    cond (depth_bad h.depth) 3
    (cond (offsets_bad h.beta h.tc) 7
    (cond (others_bad h) 9
    (cond (samples_above (largest_at h.depth) r) 10
    0)))

-- what the head of a record that is not refused has
pub record InRange (h : Head) : Type 0 where
  pub depth_least : 8 ≤ h.depth
  pub depth_most : h.depth ≤ 16
  pub bs_most : h.bs ≤ 2
  pub qpp_most : h.qpp ≤ 64 + 51
  pub qpq_most : h.qpq ≤ 64 + 51
  pub beta_most : h.beta ≤ 12
  pub tc_most : h.tc ≤ 12
