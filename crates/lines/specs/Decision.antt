-- ITU-T H.265 clauses 8.7.2.5.3 and 8.7.2.5.6 at a general depth: the decision for a luma segment of four lines, from
-- its lines 0 and 3; and how many samples of each side it may change.
use Rattle.std.specs.Prelude.{ℕ, ◌+◌, ◌*◌, ◌/◌, ◌^◌, Bool, false, cond, ◌&&◌, ltb, eqb, ℤ, pos}
use Rattle.ints.specs.Int.{◌⊞◌, ◌⊟◌, ◌⊠◌, abs}
use Rattle.lines.specs.declared.Line.{Line}
use Rattle.lines.specs.declared.SideCounts.{SideCounts}

-- Abs(x2 - 2 * x1 + x0), of one side of one line
unfoldable pub activity : ℤ → ℤ → ℤ → ℕ
activity x2 x1 x0 = abs (x2 ⊟ pos 2 ⊠ x1 ⊞ x0)

-- dp0 or dp3, of line 0 or 3
abbrev pub dp_of : Line → ℕ
dp_of l = activity (pos l.p2) (pos l.p1) (pos l.p0)

-- dq0 or dq3
abbrev pub dq_of : Line → ℕ
dq_of l = activity (pos l.q2) (pos l.q1) (pos l.q0)

-- 8.7.2.5.6: dSam of one line. Nothing here is negative, so a shift is a quotient.
unfoldable pub d_sam : ℕ → ℕ → ℕ → Line → Bool
d_sam β tc dpq l =
    ltb dpq (β / 2 ^ 2)
    && (ltb (abs (pos l.p3 ⊟ pos l.p0) + abs (pos l.q0 ⊟ pos l.q3)) (β / 2 ^ 3)
    && ltb (abs (pos l.p0 ⊟ pos l.q0)) ((5 * tc + 1) / 2 ^ 1))

-- dE (0: no filtering, 1: weak, 2: strong), and dEp and dEq, true for 1
pub record Decision : Type 0 where
  pub d_e : ℕ
  pub d_ep : Bool
  pub d_eq : Bool

-- 8.7.2.5.3, in its order
unfoldable pub decision : ℕ → ℕ → Line → Line → Decision
decision β tc l0 l3 =
    let dp0 : ℕ = dp_of l0 in
    let dp3 : ℕ = dp_of l3 in
    let dq0 : ℕ = dq_of l0 in
    let dq3 : ℕ = dq_of l3 in
    let dpq0 : ℕ = dp0 + dq0 in
    let dpq3 : ℕ = dp3 + dq3 in
    let dp : ℕ = dp0 + dp3 in
    let dq : ℕ = dq0 + dq3 in
    let d : ℕ = dpq0 + dpq3 in
    cond (ltb d β)
    (record {
      d_e = cond (d_sam β tc (2 * dpq0) l0 && d_sam β tc (2 * dpq3) l3) 2 1;
      d_ep = ltb dp ((β + β / 2 ^ 1) / 2 ^ 3);
      d_eq = ltb dq ((β + β / 2 ^ 1) / 2 ^ 3);
    })
    (record { d_e = 0; d_ep = false; d_eq = false })

-- ---- document 02, C-20: "for P and for Q, how many samples next to the edge it may change"

-- one side's count, by dE and that side's flag: "0 for skip, 3 for strong, 1 or 2 for weak by its side flag". nDp and
-- nDq of 8.7.2.5.7 are these numbers on a line that is filtered, and 0 on a line that is too rough for the weak filter
-- and on a suppressed side, of which dE and the flags do not tell.
unfoldable pub side_count : ℕ → Bool → ℕ
side_count d_e flag = cond (eqb d_e 0) 0 (cond (eqb d_e 2) 3 (cond flag 2 1))

-- the pair, of P and of Q
abbrev pub counts_of : Decision → SideCounts
counts_of d = record { p = side_count d.d_e d.d_ep; q = side_count d.d_e d.d_eq }
