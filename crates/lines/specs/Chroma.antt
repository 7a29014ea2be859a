-- ITU-T H.265 clause 8.7.2.5.8 at a general depth: the filtering of one chroma line, for Cb and for Cr.
use Rattle.std.specs.Prelude.{ℕ, ℤ, pos}
use Rattle.ints.specs.Int.{◌⊞◌, ◌⊟◌, neg, ◌⊠◌, ◌>>◌, clip3}
use Rattle.lines.specs.declared.ChromaLine.{ChromaLine}
use Rattle.lines.specs.Luma.{clip1}

-- (((q0 - p0) << 2) + p1 - q1 + 4) >> 3, before it is clipped
unfoldable pub chroma_delta : ℤ → ℤ → ℤ → ℤ → ℤ
chroma_delta p1 p0 q0 q1 = pos 4 ⊠ (q0 ⊟ p0) ⊞ p1 ⊟ q1 ⊞ pos 4 >> 3

-- Δ = Clip3(-tC, tC, ..), p0' = Clip1C(p0 + Δ), q0' = Clip1C(q0 - Δ)
unfoldable pub chroma_line : ℕ → ℕ → ChromaLine → ChromaLine
chroma_line largest t l =
    let delta : ℤ =
    clip3 (neg (pos t)) (pos t) (chroma_delta (pos l.p1) (pos l.p0) (pos l.q0) (pos l.q1)) in
    record {
      p1 = l.p1;
      p0 = clip1 largest (pos l.p0 ⊞ delta);
      q0 = clip1 largest (pos l.q0 ⊟ delta);
      q1 = l.q1;
    }
