-- The causes of document 01's 'Refusal ledger', each under the words of its row, and the ledger of the stage.
use Rattle.std.specs.Prelude.{ℕ, zero, suc, ◌+◌, ◌-◌, ◌*◌, ◌/◌, ◌%◌, Bool, not, ◌&&◌, List, [], ◌∷◌, ◌++◌, leb, ltb, eqb, length, get_or, ℤ, pos}
use Rattle.ints.specs.Int.{◌⊖◌, neg, lt}
use Rattle.picture.specs.Cell.{bit, cell_byte, cell_count}
use Rattle.picture.specs.Ledger.{Verdict, Cause, Entry, entry, first_of, any_of, once, and_then}
use Rattle.picture.specs.Picture.{Picture, Planes, Settings, plane_of, plane_width, plane_height, largest, ctb_size}
use Rattle.picture.specs.Scale.{Component, Y, Cb, Cr}
use Rattle.picture.specs.Slice.{slice_byte, slice_count}
use Rattle.picture.specs.Tile.{ctb_count}

-- 1. "width or height not allowed": "multiples of 8, from 8 to 8,192"
abbrev pub bad_size : ℕ → List Bool
bad_size n = not (eqb (n % 8) 0) ∷ ltb n 8 ∷ ltb 8192 n ∷ []

abbrev pub cause1 : Picture → Cause
cause1 p = once (bad_size p.width ++ bad_size p.height)

-- 2. "chroma format above 3"
abbrev pub bad_format : Settings → List Bool
bad_format t = ltb 3 t.format ∷ []

abbrev pub cause2 : Settings → Cause
cause2 t = once (bad_format t)

-- 3. "a depth outside 8 to 16 (both are checked in every format)"
abbrev pub bad_depth : ℕ → List Bool
bad_depth depth = ltb depth 8 ∷ ltb 16 depth ∷ []

abbrev pub bad_depths : Settings → List Bool
bad_depths t = bad_depth t.luma_depth ++ bad_depth t.chroma_depth

abbrev pub cause3 : Settings → Cause
cause3 t = once (bad_depths t)

-- 4. "log2 CTB outside 4 to 6"
abbrev pub bad_ctb : Settings → List Bool
bad_ctb t = ltb t.log2_ctb 4 ∷ ltb 6 t.log2_ctb ∷ []

abbrev pub cause4 : Settings → Cause
cause4 t = once (bad_ctb t)

-- 5. "a chroma offset outside −12 to 12 (in every format)"
abbrev pub bad_offset : ℤ → List Bool
bad_offset z = lt z (neg (pos 12)) ∷ lt (pos 12) z ∷ []

abbrev pub cause5 : Settings → Cause
cause5 t = once (bad_offset t.cb_offset ++ bad_offset t.cr_offset)

-- 6. "a plane or the cell list not of its exact length; slice bytes not a multiple of 4 or above 2,400; too few or
-- too many tile starts". Lists are judged by their lengths alone.
abbrev pub bad_plane : Picture → Component → ℕ → Bool
bad_plane p c samples = not (eqb samples (plane_width p c * plane_height p c))

abbrev pub bad_planes : Picture → Planes → List Bool
bad_planes p planes =
    bad_plane p Y (length planes.y) ∷ bad_plane p Cb (length planes.cb) ∷ bad_plane p Cr (length planes.cr) ∷ []

abbrev pub bad_cells : Picture → ℕ → Bool
bad_cells p bytes = not (eqb bytes (8 * cell_count p))

abbrev pub bad_lists : Picture → List Bool
bad_lists p =
    bad_cells p (length p.cells)
    ∷ not (eqb (length p.slices % 4) 0)
    ∷ ltb 2400 (length p.slices)
    ∷ ltb (length p.columns) 1
    ∷ ltb 20 (length p.columns)
    ∷ ltb (length p.rows) 1
    ∷ ltb 22 (length p.rows)
    ∷ []

-- with the tests of what is lent to be written beside the picture
abbrev pub cause6 : List Bool → Picture → Cause
cause6 lent p = once (bad_planes p p.originals ++ (lent ++ bad_lists p))

-- 7. "a slice record out of range", place: "first such record"
abbrev pub bad_slice : (ℕ → ℕ) → List Bool
bad_slice byte = ltb 1 (byte 0) ∷ ltb 12 (byte 1) ∷ ltb 12 (byte 2) ∷ ltb 1 (byte 3) ∷ []

abbrev pub cause7 : List ℕ → Cause
cause7 slices = record { count = length slices / 4; bad = λ n. any_of (bad_slice (slice_byte slices n)) }

-- 8. "a tile start out of rule", place: "first such entry, rows numbered on after the columns"; the rule: "first 0,
-- rising, each below the number of CTBs that way (rounded up)"
abbrev pub bad_order : List ℕ → ℕ → Bool
bad_order starts zero = not (eqb (get_or starts 0 0) 0)
bad_order starts (suc k) = leb (get_or starts (suc k) 0) (get_or starts k 0)

abbrev pub bad_start : List ℕ → ℕ → ℕ → ℕ → List Bool
bad_start starts size total k = bad_order starts k ∷ leb (ctb_count size total) (get_or starts k 0) ∷ []

abbrev pub starts_cause : List ℕ → ℕ → ℕ → Cause
starts_cause starts size total = record { count = length starts; bad = λ k. any_of (bad_start starts size total k) }

abbrev pub cause8 : Picture → Cause
cause8 p =
    and_then (starts_cause p.columns (ctb_size p.settings) p.width)
    (starts_cause p.rows (ctb_size p.settings) p.height)

-- 9. "a cell out of range, or its slice number not in the list (only 0 where the list is empty)", place: "first such
-- cell". "QP runs from −6·(luma depth − 8) to 51, bS from 0 to 2"; flag bits 5 to 7 and the last two bytes are 0.
-- Document 02, C-19: "bit 4 leaves number 9; bits 5 to 7 stay there."
abbrev pub bad_qp : ℕ → ℤ → List Bool
bad_qp depth qp = lt qp (neg (pos (6 * (depth - 8)))) ∷ lt (pos 51) qp ∷ []

abbrev pub bad_cell : ℕ → List ℕ → (ℕ → ℕ) → List Bool
bad_cell depth slices byte =
    bad_qp depth (byte 0 ⊖ 64)
    ++ (ltb 31 (byte 1)
    ∷ ltb 2 (byte 2)
    ∷ ltb 2 (byte 3)
    ∷ leb (slice_count slices) (byte 4 + 256 * byte 5)
    ∷ not (eqb (byte 6) 0)
    ∷ not (eqb (byte 7) 0)
    ∷ [])

-- a rule besides the ranges: a test of a record's bytes that holds where the record breaks it
abbrev pub Rule : Type 0
Rule = (ℕ → ℕ) → Bool

-- Document 02, C-14: "vertical bS above 0 needs bit 0, horizontal bS above 0 bit 1"; a strength that has no edge breaks
-- it
abbrev pub edgeless : Bool → ℕ → Bool
edgeless edge bs = ltb 0 bs && not edge

abbrev pub vertical_edgeless : Rule
vertical_edgeless byte = edgeless (bit (byte 1) 0) (byte 2)

abbrev pub horizontal_edgeless : Rule
horizontal_edgeless byte = edgeless (bit (byte 1) 1) (byte 3)

abbrev pub broken : List Rule → (ℕ → ℕ) → List Bool
broken [] byte = []
broken (r ∷ rest) byte = r byte ∷ broken rest byte

-- a cell record of a list out of its ranges, or against one of the rules
abbrev pub cells_cause : List Rule → ℕ → List ℕ → List ℕ → ℕ → Cause
cells_cause rules depth slices cells count = record {
  count = count;
  bad = λ n. any_of (bad_cell depth slices (cell_byte cells n) ++ broken rules (cell_byte cells n));
}

abbrev pub cause9 : List Rule → Picture → Cause
cause9 rules p = cells_cause rules p.settings.luma_depth p.slices p.cells (cell_count p)

-- 10. "an original sample above its largest", place: "first such, counted through Y, Cb, Cr"
abbrev pub samples_cause : Picture → Component → Cause
samples_cause p c =
    record {
      count = length (plane_of p.originals c);
      bad = λ k. ltb (largest p.settings c) (get_or (plane_of p.originals c) k 0);
    }

abbrev pub cause10 : Picture → Cause
cause10 p = and_then (samples_cause p Y) (and_then (samples_cause p Cb) (samples_cause p Cr))

-- ---- the ten in order: `lent` are the tests of what is lent to be written, `rules` what a cell obeys besides its
-- ranges
abbrev pub ledger : List Bool → List Rule → Picture → List Entry
ledger lent rules p =
    entry 1 (cause1 p)
    ∷ entry 2 (cause2 p.settings)
    ∷ entry 3 (cause3 p.settings)
    ∷ entry 4 (cause4 p.settings)
    ∷ entry 5 (cause5 p.settings)
    ∷ entry 6 (cause6 lent p)
    ∷ entry 7 (cause7 p.slices)
    ∷ entry 8 (cause8 p)
    ∷ entry 9 (cause9 rules p)
    ∷ entry 10 (cause10 p)
    ∷ []

-- Document 02, C-11: "Checks: the sheet's 1, 2, 3, 6 (the given planes only) and 10, in that order". So of cause 6 the
-- planes' lengths alone, and of the lists beside the planes nothing.
abbrev pub planes_cause : Picture → Cause
planes_cause p = once (bad_planes p p.originals)

abbrev pub planes_ledger : Picture → List Entry
planes_ledger p =
    entry 1 (cause1 p)
    ∷ entry 2 (cause2 p.settings)
    ∷ entry 3 (cause3 p.settings)
    ∷ entry 6 (planes_cause p)
    ∷ entry 10 (cause10 p)
    ∷ []

-- the stage's rules: document 01 has none besides the ranges, document 02's C-14 has these two, "under 9, in the same
-- pass over the cells"
abbrev pub cell_rules : List Rule
cell_rules = vertical_edgeless ∷ horizontal_edgeless ∷ []

-- the stage: "three output planes of the same lengths, lent to be written"
unfoldable pub verdict : Picture → Planes → Verdict
verdict p outputs = first_of (ledger (bad_planes p outputs) cell_rules p)
