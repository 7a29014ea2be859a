-- A picture accepted so far is accepted converted, and filtered as it was: a strength without its edge opens nothing.
use Prim.Native.Nat.{ℕ, ◌+◌, ◌*◌, ◌/◌, ◌≤◌, ◌<◌}
use mathlib.Core.Path.{◌≡◌, refl, sym, ap, ap₂, ◌∙◌}
use mathlib.Core.Bool.{Bool, true, false, cond, ◌&&◌, ◌||◌}
use mathlib.Core.List.{List, []}
use native.Mathlib.Omega.{arith}
use lib.Dec.{eqb, ltb}
use lib.ListN.{length}
use Rattle.conversion.specs.Converted.{converted}
use Rattle.conversion.proofs.Bytes.{same_length}
use Rattle.conversion.proofs.Records.{vertical_byte, horizontal_byte, other_byte}
use Rattle.filter.specs.Finished.{finished, outputs}
use Rattle.filter.specs.Segment.{vertical, horizontal}
use Rattle.filter.proofs.Alike.{CellsAlike, cells_alike}
use Rattle.picture.specs.Accepted.{CellOk, AllStrengthsOk, PictureOk}
use Rattle.picture.specs.Causes.{bad_planes, cell_rules, verdict}
use Rattle.picture.specs.Cell.{bit, cell_at, cell_byte, suppressed}
use Rattle.picture.specs.Ledger.{Verdict, acceptance}
use Rattle.picture.specs.Picture.{Picture, Planes}
use Rattle.picture.proofs.Accepted.{picture_by, picture_is, strengths_in}
use Rattle.converted_cells.specs.ConvertedCells.{
  PicturesConverted,
  converted_picture,
  outputs_before,
  verdict_before,
}
use Rattle.converted_cells.proofs.Lists.{lists_converted, record_byte}
use Rattle.converted_cells.proofs.Rule.{as_before, planes_as_before, rule_alone}

-- ---- a strength that is kept where its edge is there

same : (t : Bool) (b : ℕ) {a : ℕ} → a ≡ b → cond t a b ≡ b
same true b e = e
same false b e = refl

at_edge : (t edge : Bool) (bs : ℕ) → edge ≡ true → cond t (cond edge bs 0) bs ≡ bs
at_edge true edge bs e = rw e refl
at_edge false edge bs e = refl

no_larger : (t edge : Bool) (bs : ℕ) → cond t (cond edge bs 0) bs ≤ bs
no_larger true true bs = omega arith
no_larger true false bs = omega arith
no_larger false edge bs = omega arith

-- ---- a cell of a converted list

module _ (l : List ℕ) (n : ℕ) where
  abbrev whole : Bool
  whole = ltb n (length l / 8)

  abbrev edge : ℕ → Bool
  edge k = bit (cell_byte l n 1) k

  -- every byte but the strengths
  kept_byte : (b : ℕ) → b < 8 → eqb b 2 ≡ false → eqb b 3 ≡ false → cell_byte (converted l) n b ≡ cell_byte l n b
  kept_byte b h two three = record_byte l n b h ∙ same whole _ (other_byte (cell_byte l n) b two three)

  vertical_bs : cell_byte (converted l) n 2 ≡ cond whole (cond (edge 0) (cell_byte l n 2) 0) (cell_byte l n 2)
  vertical_bs = record_byte l n 2 (omega arith) ∙ rw (vertical_byte (cell_byte l n)) refl

  horizontal_bs : cell_byte (converted l) n 3 ≡ cond whole (cond (edge 1) (cell_byte l n 3) 0) (cell_byte l n 3)
  horizontal_bs = record_byte l n 3 (omega arith) ∙ rw (horizontal_byte (cell_byte l n)) refl

  pub cell_ok : (depth : ℕ) (slices : List ℕ) → CellOk depth slices (cell_byte l n)
      → CellOk depth slices (cell_byte (converted l) n)
  cell_ok depth slices ok = record {
    qp_low = rw (kept_byte 0 (omega arith) refl refl) ok.qp_low;
    qp_high = rw (kept_byte 0 (omega arith) refl refl) ok.qp_high;
    flags = omega (arith, ok.flags, kept_byte 1 (omega arith) refl refl);
    bsv = omega (arith, ok.bsv, vertical_bs, no_larger whole (edge 0) (cell_byte l n 2));
    bsh = omega (arith, ok.bsh, horizontal_bs, no_larger whole (edge 1) (cell_byte l n 3));
    slice =
        omega (
          arith,
          ok.slice,
          kept_byte 4 (omega arith) refl refl,
          kept_byte 5 (omega arith) refl refl,
        );
    sixth = kept_byte 6 (omega arith) refl refl ∙ ok.sixth;
    seventh = kept_byte 7 (omega arith) refl refl ∙ ok.seventh;
  }

  -- the filter does not tell the two records apart
  cell_same : CellsAlike (cell_at l n) (cell_at (converted l) n)
  unfolding cell_at suppressed
  cell_same = record {
    qp = sym (kept_byte 0 (omega arith) refl refl);
    slice =
        sym
        (ap₂ (λ (low high : ℕ). low + 256 * high) (kept_byte 4 (omega arith) refl refl)
        (kept_byte 5 (omega arith) refl refl));
    edge = elim [ vertical ↦ ap (λ (f : ℕ). bit f 0) flags | horizontal ↦ ap (λ (f : ℕ). bit f 1) flags ];
    strength = elim [
      | vertical ↦ λ e. sym (vertical_bs ∙ at_edge whole (edge 0) _ e)
      | horizontal ↦ λ e. sym (horizontal_bs ∙ at_edge whole (edge 1) _ e)
    ];
    suppressed_same = λ pcm. ap (λ (f : ℕ). bit f 2 || (bit f 3 && pcm) || bit f 4) flags;
  }
    where
      flags : cell_byte l n 1 ≡ cell_byte (converted l) n 1
      flags = sym (kept_byte 1 (omega arith) refl refl)

-- ---- the converted picture

module _ (p : Picture) where
  abbrev cells : List ℕ
  cells = converted p.cells

  -- accepted or not
  finished_same : finished p ≡ finished (converted_picture p)
  finished_same = cells_alike p cells (cell_same p.cells)

  module _ (ok : PictureOk p) where
    picture_ok : PictureOk (converted_picture p)
    picture_ok = record {
      width = ok.width;
      height = ok.height;
      settings = ok.settings;
      originals = ok.originals;
      cells_long = same_length p.cells ∙ ok.cells_long;
      slices = ok.slices;
      columns = ok.columns;
      rows = ok.rows;
      cells = λ n h. cell_ok p.cells n p.settings.luma_depth p.slices (ok.cells n h);
      samples = ok.samples;
    }

    strengths : AllStrengthsOk (converted_picture p)
    strengths n h = lists_converted.in_rule p.cells n (omega (arith, same_length p.cells, ok.cells_long))

  module _ (lent : Planes) (so_far : verdict_before p lent ≡ acceptance) where
    accepted : verdict (converted_picture p) lent ≡ acceptance
    unfolding verdict
    accepted =
        let (ok, beside, _) = picture_by (bad_planes p lent) [] p so_far in
        picture_is (bad_planes p lent) cell_rules (converted_picture p) (picture_ok ok) beside
        (λ n h. strengths_in (cell_byte cells n) (strengths ok n h))

    same_planes : outputs (converted_picture p) lent ≡ outputs_before p lent
    unfolding outputs
    same_planes =
        ap (λ (v : Verdict). cond (eqb v.number 0) (finished (converted_picture p)) lent) accepted
        ∙ sym finished_same
        ∙ sym (ap (λ (v : Verdict). cond (eqb v.number 0) (finished p) lent) so_far)

pub pictures_converted : PicturesConverted
pictures_converted = record {
  accepted = accepted;
  same_planes = same_planes;
  rule_alone = rule_alone;
  as_before = as_before;
  planes_as_before = planes_as_before;
}
