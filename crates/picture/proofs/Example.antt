-- The small inputs of document 01's refusal ledger, each with the number and the place that the ledger gives for it.
use Prim.Native.Nat.{ℕ, zero, suc, ◌+◌, ◌*◌}
use mathlib.Core.Path.{◌≡◌, refl}
use mathlib.Core.Bool.{false}
use mathlib.Core.List.{List, [], ◌∷◌, ◌++◌, map}
use lib.IntN.{ℤ, pos}
use lib.ListN.{replicate, set}
use Rattle.ints.specs.Int.{◌⊖◌, neg, lt}
use Rattle.picture.specs.Accepted.{Accepted}
use Rattle.picture.specs.Causes.{verdict}
use Rattle.picture.specs.Ledger.{Verdict}
use Rattle.picture.specs.Picture.{Picture, Planes, Settings}
use Rattle.picture.proofs.Accepted.{accepted_by}

-- ---- an accepted picture, 8 by 8, of luma alone

-- of a format, a luma depth, a log2 of the CTB size and a Cb offset
abbrev settings : ℕ → ℕ → ℕ → ℤ → Settings
settings format depth log2 cb = record {
  format = format;
  luma_depth = depth;
  chroma_depth = 8;
  log2_ctb = log2;
  cb_offset = cb;
  cr_offset = pos 0;
  pcm_loop_filter_disabled = false;
}

abbrev usual : Settings
usual = settings 0 8 4 (pos 0)

abbrev planes : List ℕ → List ℕ → List ℕ → Planes
planes y cb cr = record { y = y; cb = cb; cr = cr }

abbrev grey : List ℕ → Planes
grey y = planes y [] []

-- a luma plane, and chroma planes of 4:2:0 and of 4:2:2
abbrev flat : List ℕ
flat = replicate 64 100

abbrev small : List ℕ
small = replicate 16 100

abbrev tall : List ℕ
tall = replicate 32 100

-- n copies of a record
abbrev times : ℕ → List ℕ → List ℕ
times zero l = []
times (suc n) l = l ++ times n l

-- cells of QP 37, both edges, both bS 2, slice 0
abbrev cells : ℕ → List ℕ
cells n = times n (101 ∷ 3 ∷ 2 ∷ 2 ∷ 0 ∷ 0 ∷ 0 ∷ 0 ∷ [])

abbrev slices : ℕ → List ℕ
slices n = times n (0 ∷ 6 ∷ 6 ∷ 1 ∷ [])

-- of a width, settings, original planes, cells, slices, tile columns and tile rows
abbrev picture : ℕ → Settings → Planes → List ℕ → List ℕ → List ℕ → List ℕ → Picture
picture width t originals cells slices columns rows = record {
  width = width;
  height = 8;
  settings = t;
  originals = originals;
  cells = cells;
  slices = slices;
  columns = columns;
  rows = rows;
}

abbrev one : List ℕ
one = 0 ∷ []

abbrev base : Picture
base = picture 8 usual (grey flat) (cells 4) (slices 1) one one

-- ---- a picture with one part changed

abbrev sized : ℕ → Picture → Picture
sized width p = picture width p.settings p.originals p.cells p.slices p.columns p.rows

abbrev under : Settings → Picture → Picture
under t p = picture p.width t p.originals p.cells p.slices p.columns p.rows

abbrev showing : Planes → Picture → Picture
showing originals p = picture p.width p.settings originals p.cells p.slices p.columns p.rows

abbrev celled : List ℕ → Picture → Picture
celled cells p = picture p.width p.settings p.originals cells p.slices p.columns p.rows

abbrev sliced : List ℕ → Picture → Picture
sliced slices p = picture p.width p.settings p.originals p.cells slices p.columns p.rows

abbrev tiled : List ℕ → List ℕ → Picture → Picture
tiled columns rows p = picture p.width p.settings p.originals p.cells p.slices columns rows

-- ---- the cases

-- n times as wide
abbrev wide : ℕ → Picture
wide n = sized (8 * n) (showing (grey (replicate (64 * n) 100)) (celled (cells (4 * n)) base))

-- a picture, the planes lent with it, and the answer
record Case : Type 0 where
  asked : Picture
  outputs : Planes
  answer : Verdict

abbrev case : Picture → Planes → ℕ → ℕ → Case
case asked outputs number place =
    record { asked = asked; outputs = outputs; answer = record { number = number; place = place } }

abbrev lent : Planes
lent = grey (replicate 64 7)

abbrev cases : List Case
cases =
    case base lent 0 0
    ∷ case (sized 12 base) lent 1 0
    ∷ case (under (settings 4 8 4 (pos 0)) base) lent 2 0
    ∷ case (under (settings 0 7 4 (pos 0)) base) lent 3 0
    ∷ case (under (settings 0 8 3 (pos 0)) base) lent 4 0
    ∷ case (under (settings 0 8 4 (pos 13)) base) lent 5 0
    ∷ case (under (settings 0 8 4 (neg (pos 13))) base) lent 5 0
    ∷ case (showing (grey (replicate 63 100)) base) lent 6 0
    ∷ case base (grey (replicate 63 7)) 6 0
    ∷ case (sliced (slices 2 ++ (0 ∷ 13 ∷ 6 ∷ 1 ∷ [])) base) lent 7 2
    ∷ case (tiled (0 ∷ 2 ∷ 2 ∷ []) one (wide 8)) (grey (replicate 512 7)) 8 2
    ∷ case (celled (set (cells 4) (8 * 2) 63) base) lent 9 2
    -- all flags of document 01 and C-19's, and the first that is none
    ∷ case (celled (set (cells 4) (8 * 2 + 1) 31) base) lent 0 0
    ∷ case (celled (set (cells 4) (8 * 2 + 1) 32) base) lent 9 2
    -- C-14: a strength above 0 needs its own bit, and no other helps; 0 needs none
    ∷ case (celled (set (cells 4) (8 * 2 + 1) 30) base) lent 9 2
    ∷ case (celled (set (cells 4) (8 * 3 + 1) 29) base) lent 9 3
    ∷ case (celled (set (set (cells 4) (8 * 2 + 1) 2) (8 * 2 + 2) 1) base) lent 9 2
    ∷ case (celled (set (set (cells 4) (8 * 2 + 1) 2) (8 * 2 + 2) 0) base) lent 0 0
    ∷ case (celled (set (set (cells 4) (8 * 3 + 1) 1) (8 * 3 + 3) 1) base) lent 9 3
    ∷ case (celled (set (set (cells 4) (8 * 3 + 1) 1) (8 * 3 + 3) 0) base) lent 0 0
    ∷ case (showing (grey (set flat 5 256)) base) lent 10 5
    -- of two faults the lower number is answered
    ∷ case (sized 12 (under (settings 4 8 4 (pos 0)) base)) lent 1 0
    ∷ case (celled (set (cells 4) (8 * 2) 63) (showing (grey (set flat 5 256)) base)) lent 9 2
    -- the place runs on: row 1 after one column; sample 3 of Cr after 64 of Y and 16 of Cb
    ∷ case (tiled one (0 ∷ 1 ∷ []) base) lent 8 2
    ∷ case (under (settings 1 8 4 (pos 0)) (showing (planes flat small (set small 3 256)) base))
    (planes flat small small) 10 83
    -- chroma of 4:2:2 and of 4:4:4
    ∷ case (under (settings 2 8 4 (pos 0)) (showing (planes flat tall tall) base)) (planes flat tall tall) 0 0
    ∷ case (under (settings 3 8 4 (pos 0)) (showing (planes flat flat flat) base)) (planes flat flat flat) 0 0
    -- 24 columns are two CTBs of 16, rounded up
    ∷ case (tiled (0 ∷ 1 ∷ []) one (wide 3)) (grey (replicate 192 7)) 0 0
    -- slice 1 is in a list of two and not in a list of one
    ∷ case (sliced (slices 2) (celled (set (cells 4) (8 * 2 + 4) 1) base)) lent 0 0
    ∷ case (celled (set (cells 4) (8 * 2 + 4) 1) base) lent 9 2
    -- slice 0 alone is in the empty list
    ∷ case (sliced [] base) lent 0 0
    ∷ case (sliced [] (celled (set (cells 4) (8 * 2 + 4) 1) base)) lent 9 2
    -- at depth 10 the QP goes down to −12
    ∷ case (under (settings 0 10 4 (pos 0)) (celled (set (cells 4) (8 * 2) 52) base)) lent 0 0
    ∷ case (under (settings 0 10 4 (pos 0)) (celled (set (cells 4) (8 * 2) 51) base)) lent 9 2
    ∷ []

-- every case is answered as it says
answered : map (λ c. verdict c.asked c.outputs) cases ≡ map (λ c. c.answer) cases
unfolding verdict lt neg ◌⊖◌
answered = refl

-- so there are accepted pictures
accepted : Accepted base lent
unfolding verdict lt neg ◌⊖◌
accepted = accepted_by base lent refl
