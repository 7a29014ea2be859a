-- ITU-T H.265 clause 8.7.2.5.7 at a general depth: the filtering of one luma line.
-- A suppressed side is filtered too and restored after the pass, where the clause sets nDp or nDq to 0
-- (docs/DIFFERENCES.md).
use Rattle.std.specs.Prelude.{ℕ, ◌*◌, Bool, cond, ltb, eqb, ℤ, pos}
use Rattle.ints.specs.Int.{◌⊞◌, ◌⊟◌, neg, ◌⊠◌, ◌>>◌, clip3, abs, nat_of}
use Rattle.lines.specs.declared.Line.{Line}
use Rattle.lines.specs.Decision.{Decision}

-- Clip1Y(v) = Clip3(0, (1 << BitDepthY) - 1, v), of the largest sample
unfoldable pub clip1 : ℕ → ℤ → ℕ
clip1 largest v = nat_of (clip3 (pos 0) (pos largest) v)

-- ---- dE 2: the strong filter

-- Clip3(x - 2 * tC, x + 2 * tC, v)
unfoldable pub near : ℤ → ℤ → ℤ → ℤ
near tc x v = clip3 (x ⊟ pos 2 ⊠ tc) (x ⊞ pos 2 ⊠ tc) v

unfoldable pub strong_line : ℕ → Line → Line
strong_line t l =
    let tc : ℤ = pos t in
    let p3 : ℤ = pos l.p3 in
    let p2 : ℤ = pos l.p2 in
    let p1 : ℤ = pos l.p1 in
    let p0 : ℤ = pos l.p0 in
    let q0 : ℤ = pos l.q0 in
    let q1 : ℤ = pos l.q1 in
    let q2 : ℤ = pos l.q2 in
    let q3 : ℤ = pos l.q3 in
    record {
      p3 = l.p3;
      p2 = nat_of (near tc p2 (pos 2 ⊠ p3 ⊞ pos 3 ⊠ p2 ⊞ p1 ⊞ p0 ⊞ q0 ⊞ pos 4 >> 3));
      p1 = nat_of (near tc p1 (p2 ⊞ p1 ⊞ p0 ⊞ q0 ⊞ pos 2 >> 2));
      p0 = nat_of (near tc p0 (p2 ⊞ pos 2 ⊠ p1 ⊞ pos 2 ⊠ p0 ⊞ pos 2 ⊠ q0 ⊞ q1 ⊞ pos 4 >> 3));
      q0 = nat_of (near tc q0 (p1 ⊞ pos 2 ⊠ p0 ⊞ pos 2 ⊠ q0 ⊞ pos 2 ⊠ q1 ⊞ q2 ⊞ pos 4 >> 3));
      q1 = nat_of (near tc q1 (p0 ⊞ q0 ⊞ q1 ⊞ q2 ⊞ pos 2 >> 2));
      q2 = nat_of (near tc q2 (p0 ⊞ q0 ⊞ q1 ⊞ pos 3 ⊠ q2 ⊞ pos 2 ⊠ q3 ⊞ pos 4 >> 3));
      q3 = l.q3;
    }

-- ---- dE 1: the weak filter

-- Δ = (9 * (q0 - p0) - 3 * (q1 - p1) + 8) >> 4, before it is clipped
unfoldable pub delta0 : ℤ → ℤ → ℤ → ℤ → ℤ
delta0 p1 p0 q0 q1 = pos 9 ⊠ (q0 ⊟ p0) ⊟ pos 3 ⊠ (q1 ⊟ p1) ⊞ pos 8 >> 4

-- Δp = Clip3(-(tC >> 1), tC >> 1, (((p2 + p0 + 1) >> 1) - p1 + Δ) >> 1); Δq is the same of the q side's samples and
-- of -Δ
unfoldable pub side_delta : ℤ → ℤ → ℤ → ℤ → ℤ → ℤ
side_delta half x2 x1 x0 delta = clip3 (neg half) half ((x2 ⊞ x0 ⊞ pos 1 >> 1) ⊟ x1 ⊞ delta >> 1)

-- p1' (or q1'): moved by Δp (Δq) where dEp (dEq) is 1
unfoldable pub second : ℕ → ℤ → Bool → ℕ → ℕ → ℕ → ℤ → ℕ
second largest half on x2 x1 x0 delta =
    cond on (clip1 largest (pos x1 ⊞ side_delta half (pos x2) (pos x1) (pos x0) delta)) x1

-- the line moved by the clipped Δ
unfoldable pub weak_by : ℕ → ℕ → Bool → Bool → Line → ℤ → Line
weak_by largest t d_ep d_eq l delta =
    record {
      p3 = l.p3;
      p2 = l.p2;
      p1 = second largest (pos t >> 1) d_ep l.p2 l.p1 l.p0 delta;
      p0 = clip1 largest (pos l.p0 ⊞ delta);
      q0 = clip1 largest (pos l.q0 ⊟ delta);
      q1 = second largest (pos t >> 1) d_eq l.q2 l.q1 l.q0 (neg delta);
      q2 = l.q2;
      q3 = l.q3;
    }

-- where Abs(Δ) < tC * 10: Δ = Clip3(-tC, tC, Δ), and the samples next to the edge move
unfoldable pub weak_line : ℕ → ℕ → Bool → Bool → Line → Line
weak_line largest t d_ep d_eq l =
    let d0 : ℤ = delta0 (pos l.p1) (pos l.p0) (pos l.q0) (pos l.q1) in
    cond (ltb (abs d0) (t * 10)) (weak_by largest t d_ep d_eq l (clip3 (neg (pos t)) (pos t) d0)) l

-- ---- one line of a segment, by its decision
unfoldable pub luma_line : Decision → ℕ → ℕ → Line → Line
luma_line d largest t l =
    cond (eqb d.d_e 2) (strong_line t l)
    (cond (eqb d.d_e 1) (weak_line largest t d.d_ep d.d_eq l)
    l)
