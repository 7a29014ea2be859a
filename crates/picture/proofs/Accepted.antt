-- A picture is accepted exactly where no cause of the refusal ledger applies.
use Prim.Native.Nat.{ℕ, zero, suc, ◌+◌, ◌-◌, ◌*◌, ◌≤◌, ◌<◌}
use mathlib.Core.Path.{◌≡◌, refl, sym, ap}
use mathlib.Core.Bool.{Bool, true, false, not, ◌&&◌}
use mathlib.Core.List.{List, [], ◌∷◌, ◌++◌}
use native.Mathlib.Omega.{arith}
use borrow.Author.Tests.{ltb-true, ltb-false, leb-false, lt-ltb, lt-leb, le-ltb}
use lib.Dec.{ltb}
use lib.ListN.{length}
use lib.IntN.{pos}
use Rattle.ints.specs.Int.{◌⊖◌, neg, lt}
use Rattle.ints.proofs.Bounds.{low_out, most_out}
use Rattle.ints.proofs.Laws.{diffs, lt_diff, pos-lt}
use Rattle.picture.specs.Accepted.{
  SizeOk,
  SettingsOk,
  PlanesOk,
  SamplesOk,
  SliceOk,
  StartsOk,
  CellOk,
  StrengthsOk,
  GivenPlanesOk,
  PictureOk,
  Accepted,
}
use Rattle.picture.specs.Causes.{
  Rule,
  broken,
  bad_size,
  bad_format,
  bad_depths,
  bad_ctb,
  bad_offset,
  bad_planes,
  bad_lists,
  bad_slice,
  bad_start,
  starts_cause,
  bad_cell,
  samples_cause,
  cause2,
  cause3,
  cause4,
  cause5,
  cause7,
  cause9,
  cause10,
  cell_rules,
  ledger,
  planes_ledger,
  verdict,
}
use Rattle.picture.specs.Cell.{bit, cell_byte, cell_count}
use Rattle.picture.specs.Ledger.{Verdict, acceptance, and_then, any_of, first_of}
use Rattle.picture.specs.Picture.{Picture, Planes, Settings, ctb_size}
use Rattle.picture.specs.Scale.{Component, Y, Cb, Cr}
use Rattle.picture.specs.Slice.{slice_byte, slice_count}
use Rattle.picture.proofs.Ledger.{
  Good,
  NoneOf,
  eq_not,
  good_in,
  good_out,
  none_in,
  none_join,
  none_out,
  none_part,
  not_eq,
  once_in,
  once_out,
  then_in,
  then_out,
  to_fact,
  to_test,
}

-- ---- the parts of a picture

settings_out : (t : Settings) → Good (cause2 t) → Good (cause3 t) → Good (cause4 t) → Good (cause5 t) → SettingsOk t
settings_out t g2 g3 g4 g5 =
    let format = once_out (bad_format t) g2 in
    let depths = once_out (bad_depths t) g3 in
    let ctb = once_out (bad_ctb t) g4 in
    let offsets = once_out (bad_offset t.cb_offset ++ bad_offset t.cr_offset) g5 in
    search to_fact depth 1

planes_in : (p : Picture) (planes : Planes) → PlanesOk p planes → NoneOf (bad_planes p planes)
planes_in p planes ok = (eq_not _ _ (ok Y), (eq_not _ _ (ok Cb), (eq_not _ _ (ok Cr), tt)))

planes_out : (p : Picture) (planes : Planes) → NoneOf (bad_planes p planes) → PlanesOk p planes
planes_out p planes h = elim [ Y ↦ not_eq _ _ h.0 | Cb ↦ not_eq _ _ h.1.0 | Cr ↦ not_eq _ _ h.1.1.0 ]

-- an empty slice list has no record to be bad, and the record that it stands for is in range
slice_out : (l : List ℕ) → Good (cause7 l) → (n : ℕ) → n < slice_count l → SliceOk (slice_byte l n)
slice_out [] h n hn = omega arith
slice_out (x ∷ r) h n hn = omega (arith, ltb-false, none_out (bad_slice (slice_byte (x ∷ r) n)) (h n hn))

slice_in : (l : List ℕ) → ((n : ℕ) → n < slice_count l → SliceOk (slice_byte l n)) → Good (cause7 l)
slice_in [] h n hn = absurd (omega arith)
slice_in (x ∷ r) h n hn = none_in (bad_slice (slice_byte (x ∷ r) n)) (omega (arith, le-ltb, h n hn))

module _ (l : List ℕ) (many size total : ℕ) where
  starts_out : 0 < length l → length l ≤ many → Good (starts_cause l size total) → StartsOk l many size total
  starts_out one few h = record {
    one = one;
    few = few;
    zeroth = not_eq _ _ (none_out (bad_start l size total 0) (h 0 one)).0;
    rising = λ k hk. leb-false _ _ (none_out (bad_start l size total (suc k)) (h (suc k) hk)).0;
    below = λ k hk. leb-false _ _ (none_out (bad_start l size total k) (h k hk)).1.0;
  }

  starts_in : StartsOk l many size total → Good (starts_cause l size total)
  starts_in ok zero hk = none_in (bad_start l size total 0) (omega (arith, eq_not, lt-leb, ok.below 0 hk))
  starts_in ok (suc k) hk =
      none_in (bad_start l size total (suc k)) (omega (arith, lt-leb, ok.rising k hk, ok.below (suc k) hk))

-- a cell's ranges, and the rules that it obeys besides
cell_out : (depth : ℕ) (slices : List ℕ) (rules : List Rule) (byte : ℕ → ℕ)
    → any_of (bad_cell depth slices byte ++ broken rules byte) ≡ false
    → CellOk depth slices byte × NoneOf (broken rules byte)
cell_out depth slices rules byte e =
    let (h, obeyed) = none_part (bad_cell depth slices byte) (broken rules byte)
    (none_out (bad_cell depth slices byte ++ broken rules byte) e) in
    (search to_fact depth 1, obeyed)

cell_in : (depth : ℕ) (slices : List ℕ) (rules : List Rule) (byte : ℕ → ℕ) → CellOk depth slices byte
    → NoneOf (broken rules byte) → any_of (bad_cell depth slices byte ++ broken rules byte) ≡ false
cell_in depth slices rules byte ok obeyed =
    none_in (bad_cell depth slices byte ++ broken rules byte)
    (none_join (bad_cell depth slices byte) (broken rules byte) (search to_test depth 1) obeyed)

samples_out : (p : Picture) → Good (cause10 p) → (c : Component) → Good (samples_cause p c)
samples_out p h =
    let (luma, chroma) = then_out (samples_cause p Y) (and_then (samples_cause p Cb) (samples_cause p Cr)) h in
    let (blue, red) = then_out (samples_cause p Cb) (samples_cause p Cr) chroma in
    elim [ Y ↦ luma | Cb ↦ blue | Cr ↦ red ]

samples_in : (p : Picture) → ((c : Component) → Good (samples_cause p c)) → Good (cause10 p)
samples_in p h =
    then_in (samples_cause p Y) (and_then (samples_cause p Cb) (samples_cause p Cr)) (h Y)
    (then_in (samples_cause p Cb) (samples_cause p Cr) (h Cb) (h Cr))

-- the two tests of a QP byte, and its range, on naturals
pub qp_low_test : (byte k : ℕ) → lt (byte ⊖ 64) (neg (pos k)) ≡ ltb (byte + k) 64
qp_low_test byte k = simp (diffs, lt_diff)

pub qp_high_test : (byte : ℕ) → lt (pos 51) (byte ⊖ 64) ≡ ltb 115 byte
qp_high_test byte = pos-lt 51 byte 64

pub qp_range : {depth : ℕ} {slices : List ℕ} {byte : ℕ → ℕ} → CellOk depth slices byte
    → (64 ≤ byte 0 + 6 * (depth - 8)) × (byte 0 ≤ 115)
qp_range {depth} {slices} {byte} ok =
    (low_out (6 * (depth - 8)) (byte 0) 64 ok.qp_low, most_out 51 (byte 0) 64 ok.qp_high)

-- ---- the rules of a cell, and C-14's

-- no cell breaks one of the rules
abbrev pub Obeys : List Rule → Picture → Type 0
Obeys rules p = (n : ℕ) → n < cell_count p → NoneOf (broken rules (cell_byte p.cells n))

edge_out : (some edge : Bool) → (some && not edge) ≡ false → some ≡ true → edge ≡ true
edge_out true true e h = refl
edge_out true false e h = sym e
edge_out false edge e h = absurd (let z : ◌≡◌ {A = ℕ} 0 1 = cc in omega arith)

edge_in : (some edge : Bool) → (some ≡ true → edge ≡ true) → (some && not edge) ≡ false
edge_in true true h = refl
edge_in true false h = sym (h refl)
edge_in false edge h = refl

pub strengths_out : (byte : ℕ → ℕ) → NoneOf (broken cell_rules byte) → StrengthsOk byte
strengths_out byte h = record {
  vertical = λ some. edge_out (ltb 0 (byte 2)) (bit (byte 1) 0) h.0 (lt-ltb _ _ some);
  horizontal = λ some. edge_out (ltb 0 (byte 3)) (bit (byte 1) 1) h.1.0 (lt-ltb _ _ some);
}

pub strengths_in : (byte : ℕ → ℕ) → StrengthsOk byte → NoneOf (broken cell_rules byte)
strengths_in byte ok = (
  edge_in (ltb 0 (byte 2)) (bit (byte 1) 0) (λ e. ok.vertical (ltb-true _ _ e)),
  (edge_in (ltb 0 (byte 3)) (bit (byte 1) 1) (λ e. ok.horizontal (ltb-true _ _ e)), tt),
)

-- a record with the same bytes is in rule too
pub strengths_same : (f g : ℕ → ℕ) → ((b : ℕ) → b < 8 → f b ≡ g b) → StrengthsOk g → StrengthsOk f
strengths_same f g e ok = record {
  vertical = λ some. rw (e 1 (omega arith)) (ok.vertical (omega (arith, e 2 (omega arith))));
  horizontal = λ some. rw (e 1 (omega arith)) (ok.horizontal (omega (arith, e 3 (omega arith))));
}

-- ---- a picture that no cause applies to is accepted, whatever is lent beside it and whatever the rules are

pub picture_by : (lent : List Bool) (rules : List Rule) (p : Picture) → first_of (ledger lent rules p) ≡ acceptance
    → PictureOk p × NoneOf lent × Obeys rules p
picture_by lent rules p e =
    let (g1, (g2, (g3, (g4, (g5, (g6, (g7, (g8, (g9, (g10, _)))))))))) =
    good_out (ledger lent rules p) (omega arith) (ap (λ (v : Verdict). v.number) e) in
    let t : Settings = p.settings in
    let sizes = once_out (bad_size p.width ++ bad_size p.height) g1 in
    let (own, others) = none_part (bad_planes p p.originals) (lent ++ bad_lists p)
    (once_out (bad_planes p p.originals ++ (lent ++ bad_lists p)) g6) in
    let (beside, lists) = none_part lent (bad_lists p) others in
    let (columns, rows) = then_out (starts_cause p.columns (ctb_size t) p.width)
    (starts_cause p.rows (ctb_size t) p.height) g8 in (
      record {
        width = search to_fact depth 1;
        height = search to_fact depth 1;
        settings = settings_out t g2 g3 g4 g5;
        originals = planes_out p p.originals own;
        cells_long = search to_fact depth 1;
        slices =
            record {
              fours = search to_fact depth 1;
              most = search to_fact depth 1;
              records = slice_out
                  p.slices g7;
            };
        columns =
            starts_out p.columns 20 (ctb_size t) p.width (search to_fact depth 1)
            (search to_fact depth 1) columns;
        rows = starts_out p.rows 22 (ctb_size t) p.height (search to_fact depth 1) (search to_fact depth 1) rows;
        cells = λ n h. (cell_out t.luma_depth p.slices rules _ (g9 n h)).0;
        samples = λ c k h. ltb-false _ _ (samples_out p g10 c k h);
      },
      beside,
      λ n h. (cell_out t.luma_depth p.slices rules _ (g9 n h)).1,
    )

pub accepted_by : (p : Picture) (outputs : Planes) → verdict p outputs ≡ acceptance → Accepted p outputs
unfolding verdict
accepted_by p outputs e =
    let (picture, lent, rules) = picture_by (bad_planes p outputs) cell_rules p e in
    record {
      picture = picture;
      strengths = λ n h. strengths_out (cell_byte p.cells n) (rules n h);
      outputs_long = planes_out p outputs lent;
    }

-- its number says whether a picture is accepted
pub accepted_number : (p : Picture) (outputs : Planes) → (verdict p outputs).number ≡ 0
    → verdict p outputs ≡ acceptance
unfolding verdict
accepted_number p outputs e =
    let ten = ledger (bad_planes p outputs) cell_rules p in
    good_in ten (good_out ten (omega arith) e)

-- ---- and none applies to an accepted one

pub picture_is : (lent : List Bool) (rules : List Rule) (p : Picture) → PictureOk p → NoneOf lent → Obeys rules p
    → first_of (ledger lent rules p) ≡ acceptance
picture_is lent rules p ok beside obeyed =
    let t : Settings = p.settings in
    let columns = starts_in p.columns 20 (ctb_size t) p.width ok.columns in
    let rows = starts_in p.rows 22 (ctb_size t) p.height ok.rows in
    let lists : NoneOf (bad_lists p) = search to_test depth 1 in
    let g1 = once_in (bad_size p.width ++ bad_size p.height) (search to_test depth 1) in
    let g2 = once_in (bad_format t) (search to_test depth 1) in
    let g3 = once_in (bad_depths t) (search to_test depth 1) in
    let g4 = once_in (bad_ctb t) (search to_test depth 1) in
    let g5 = once_in (bad_offset t.cb_offset ++ bad_offset t.cr_offset) (search to_test depth 1) in
    let g6 = once_in (bad_planes p p.originals ++ (lent ++ bad_lists p))
    (none_join (bad_planes p p.originals) (lent ++ bad_lists p) (planes_in p p.originals ok.originals)
    (none_join lent (bad_lists p) beside lists)) in
    let g7 = slice_in p.slices ok.slices.records in
    let g8 = then_in (starts_cause p.columns (ctb_size t) p.width) (starts_cause p.rows (ctb_size t) p.height)
    columns rows in
    let g9 : Good (cause9 rules p) = λ n h. cell_in t.luma_depth p.slices rules _ (ok.cells n h) (obeyed n h) in
    let g10 = samples_in p (λ c k h. le-ltb _ _ (ok.samples c k h)) in
    good_in (ledger lent rules p) (g1, (g2, (g3, (g4, (g5, (g6, (g7, (g8, (g9, (g10, tt))))))))))

pub accepted_is : (p : Picture) (outputs : Planes) → Accepted p outputs → verdict p outputs ≡ acceptance
unfolding verdict
accepted_is p outputs ok =
    picture_is (bad_planes p outputs) cell_rules p ok.picture (planes_in p outputs ok.outputs_long)
    (λ n h. strengths_in (cell_byte p.cells n) (ok.strengths n h))

-- ---- the planes alone

pub planes_by : (p : Picture) → first_of (planes_ledger p) ≡ acceptance → GivenPlanesOk p
planes_by p e =
    let (g1, (g2, (g3, (g6, (g10, _))))) =
    good_out (planes_ledger p) (omega arith) (ap (λ (v : Verdict). v.number) e) in
    let sizes = once_out (bad_size p.width ++ bad_size p.height) g1 in
    let format = once_out (bad_format p.settings) g2 in
    let depths = once_out (bad_depths p.settings) g3 in
    record {
      width = search to_fact depth 1;
      height = search to_fact depth 1;
      format = search to_fact depth 1;
      luma_low = search to_fact depth 1;
      luma_high = search to_fact depth 1;
      chroma_low = search to_fact depth 1;
      chroma_high = search to_fact depth 1;
      originals = planes_out p p.originals (once_out (bad_planes p p.originals) g6);
      samples = λ c k h. ltb-false _ _ (samples_out p g10 c k h);
    }

pub planes_is : (p : Picture) → GivenPlanesOk p → first_of (planes_ledger p) ≡ acceptance
planes_is p ok =
    let t : Settings = p.settings in
    let g1 = once_in (bad_size p.width ++ bad_size p.height) (search to_test depth 1) in
    let g2 = once_in (bad_format t) (search to_test depth 1) in
    let g3 = once_in (bad_depths t) (search to_test depth 1) in
    let g6 = once_in (bad_planes p p.originals) (planes_in p p.originals ok.originals) in
    let g10 = samples_in p (λ c k h. le-ltb _ _ (ok.samples c k h)) in
    good_in (planes_ledger p) (g1, (g2, (g3, (g6, (g10, tt)))))

-- by the settings of a whole picture
pub planes_with : (p : Picture) → SizeOk p.width → SizeOk p.height → SettingsOk p.settings
    → PlanesOk p p.originals → SamplesOk p → first_of (planes_ledger p) ≡ acceptance
planes_with p width height t long samples = planes_is p record {
  width = width;
  height = height;
  format = t.format;
  luma_low = t.luma_low;
  luma_high = t.luma_high;
  chroma_low = t.chroma_low;
  chroma_high = t.chroma_high;
  originals = long;
  samples = samples;
}

-- the planes of a picture that passes its own checks
pub own_planes : (p : Picture) → PictureOk p → first_of (planes_ledger p) ≡ acceptance
own_planes p ok = planes_with p ok.width ok.height ok.settings ok.originals ok.samples
