-- Document 01, 'Figures to check': the starred cases as one list, and what it is that the definitions give a figure; a
-- segment's with its counts (document 02, C-20).
use Rattle.std.specs.Prelude.{ℕ, ◌≡◌, true, List, [], ◌∷◌, ℤ, pos, negsuc}
use Rattle.filter.specs.Bands.{horizontal_bands}
use Rattle.lines.specs.declared.ChromaLine.{ChromaLine}
use Rattle.lines.specs.declared.Line.{Line}
use Rattle.lines.specs.declared.LumaDecision.{LumaDecision}
use Rattle.lines.specs.declared.LumaDecision.TheVariants.{Strong, Weak}
use Rattle.lines.specs.Answer.{answer_of}
use Rattle.lines.specs.Chroma.{chroma_line}
use Rattle.lines.specs.Decision.{decision}
use Rattle.lines.specs.Luma.{luma_line}
use Rattle.thresholds.specs.Chroma.{chroma_qp, chroma_tc}
use Rattle.thresholds.specs.Luma.{average_qp, luma_beta, luma_tc}

abbrev pub luma_samples : ℕ → ℕ → ℕ → ℕ → ℕ → ℕ → ℕ → ℕ → Line
luma_samples p3 p2 p1 p0 q0 q1 q2 q3 =
    record { p3 = p3; p2 = p2; p1 = p1; p0 = p0; q0 = q0; q1 = q1; q2 = q2; q3 = q3 }

abbrev pub chroma_samples : ℕ → ℕ → ℕ → ℕ → ChromaLine
chroma_samples p1 p0 q0 q1 = record { p1 = p1; p0 = p0; q0 = q0; q1 = q1 }

-- "Segments: depth 8, both QP 37, bS 2, offsets 0 (β 36, tc 5), all lines alike, p side 100."
abbrev pub segment_beta : ℕ
segment_beta = luma_beta 8 (average_qp (pos 37) (pos 37)) (pos 0)

abbrev pub segment_tc : ℕ
segment_tc = luma_tc 8 (average_qp (pos 37) (pos 37)) (pos 2) (pos 0)

abbrev pub step : ℕ → Line
step q = luma_samples 100 100 100 100 q q q q

pub data Figure : Type 0 where
  -- β and tC of the segments
  thresholds : ℕ → ℕ → Figure
  -- a segment's q side, its decision, P's and Q's count, and each of its lines after filtering
  segment : ℕ → LumaDecision → ℕ → ℕ → Line → Figure
  -- two QPs and their average
  average : ℤ → ℤ → ℤ → Figure
  -- chroma format, index, chroma QP
  chroma_qps : ℕ → ℤ → ℤ → Figure
  -- both QPs, tC at format 1 and offsets 0, a chroma line, the line after filtering
  chroma : ℤ → ℕ → ChromaLine → ChromaLine → Figure
  -- height, CTB size, the ends of the horizontal bands
  bands : ℕ → ℕ → List ℕ → Figure

-- the definitions give the figure
abbrev pub Given : Figure → Type 0
Given (thresholds β tc) = (segment_beta ≡ β) × (segment_tc ≡ tc)
Given (segment q d count_p count_q out) =
    (answer_of (decision segment_beta segment_tc (step q) (step q))
    ≡ record { decision = d; counts = record { p = count_p; q = count_q } })
    × (luma_line (decision segment_beta segment_tc (step q) (step q)) 255 segment_tc (step q) ≡ out)
Given (average p q a) = average_qp p q ≡ a
Given (chroma_qps format i qp) = chroma_qp format i ≡ qp
Given (chroma qp tc l out) =
    (chroma_tc 1 8 (average_qp qp qp) (pos 0) (pos 0) ≡ tc) × (chroma_line 255 tc l ≡ out)
Given (bands height size ends) = horizontal_bands height size ≡ ends

abbrev pub AllGiven : List Figure → Type 0
AllGiven [] = Unit {0}
AllGiven (f ∷ r) = Given f × AllGiven r

abbrev pub figures : List Figure
figures =
    thresholds 36 5
    -- S1: q side 104; S2: 112; S3: 113 is weak; S4: 231; S5: 232 is unchanged
    ∷ segment 104 Strong 3 3 (luma_samples 100 101 101 102 103 103 104 104)
    ∷ segment 112 Strong 3 3 (luma_samples 100 102 103 105 108 109 111 112)
    ∷ segment 113 (Weak true true) 2 2 (luma_samples 100 100 102 105 108 111 113 113)
    ∷ segment 231 (Weak true true) 2 2 (luma_samples 100 100 102 105 226 229 231 231)
    ∷ segment 232 (Weak true true) 2 2 (step 232)
    -- S7: QP -1 and -2 average to -1; and -1 and -1, where the floor and rounding to zero part
    ∷ average (negsuc 0) (negsuc 1) (negsuc 0)
    ∷ average (negsuc 0) (negsuc 0) (negsuc 0)
    -- Q1, format 1; Q2, format 1 and format 2
    ∷ chroma_qps 1 (pos 29) (pos 29)
    ∷ chroma_qps 1 (pos 30) (pos 29)
    ∷ chroma_qps 1 (pos 43) (pos 37)
    ∷ chroma_qps 1 (pos 44) (pos 38)
    ∷ chroma_qps 1 (pos 57) (pos 51)
    ∷ chroma_qps 2 (pos 52) (pos 51)
    -- K1: QP 37, tC 4; K2: QP 30, tC 3
    ∷ chroma (pos 37) 4 (chroma_samples 50 50 60 60) (chroma_samples 50 54 56 60)
    ∷ chroma (pos 30) 3 (chroma_samples 50 50 60 60) (chroma_samples 50 53 57 60)
    -- B1: height 64, CTB 16
    ∷ bands 64 16 (20 ∷ 36 ∷ 52 ∷ 64 ∷ [])
    ∷ []
