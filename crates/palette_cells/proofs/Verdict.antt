-- A picture is answered as the turned one: of the checks only those of a cell look at its flags, and they let bit 4
-- pass and find the edges' bits as they were.
use Prim.Native.Nat.{ℕ, ◌+◌, ◌*◌, ◌%◌}
use mathlib.Core.Path.{◌≡◌, ap, sym, ◌∙◌}
use mathlib.Core.Bool.{not, ◌&&◌}
use mathlib.Core.List.{[], ◌∷◌, ◌++◌}
use native.Mathlib.Omega.{arith}
use lib.Dec.{ltb, leb, eqb}
use lib.ListN.{drop}
use Rattle.ints.specs.Int.{◌⊖◌}
use Rattle.picture.specs.Causes.{
  bad_planes,
  bad_cells,
  bad_lists,
  bad_qp,
  bad_cell,
  broken,
  cell_rules,
  cause1,
  cause2,
  cause3,
  cause4,
  cause5,
  cause6,
  cause7,
  cause8,
  cause9,
  cause10,
  verdict,
}
use Rattle.picture.specs.Cell.{bit, cell_byte, cell_count}
use Rattle.picture.specs.Ledger.{entry, first_of, any_of, once}
use Rattle.picture.specs.Picture.{Picture, Planes}
use Rattle.picture.specs.Slice.{slice_count}
use Rattle.palette_cells.specs.Palette.{turned, turned_from}
use Rattle.palette_cells.proofs.Bits.{turns}
use Rattle.palette_cells.proofs.Turned.{same_length, flags_byte, other_byte}

module _ (p : Picture) (lent : Planes) where
  six : cause6 (bad_planes p lent) p ≡ cause6 (bad_planes p lent) (turned p)
  six = ap (λ (n : ℕ). once (bad_planes p p.originals ++ (bad_planes p lent ++ (bad_cells p n ∷ drop 1 (bad_lists p)))))
      (sym (same_length 0 p.cells))

  -- record n, whose other bytes are the same
  module _ (n : ℕ) where
    abbrev before : ℕ → ℕ
    before = cell_byte p.cells n

    abbrev after : ℕ → ℕ
    after = cell_byte (turned_from 0 p.cells) n

    byte : (b : ℕ) → ((0 + (8 * n + b)) % 8 ≡ 1 → ⊥) → before b ≡ after b
    byte b other = sym (other_byte p.cells n b other)

    flags : ltb 31 (before 1) ≡ ltb 31 (after 1)
    flags = sym (ap (ltb 31) (flags_byte p.cells n) ∙ (turns (before 1)).large)

    in_range :
        bad_cell p.settings.luma_depth p.slices before
        ≡ bad_cell p.settings.luma_depth p.slices after
    in_range = λ i.
        bad_qp p.settings.luma_depth (byte 0 (λ e. omega arith) i ⊖ 64)
        ++ (flags i
        ∷ ltb 2 (byte 2 (λ e. omega arith) i)
        ∷ ltb 2 (byte 3 (λ e. omega arith) i)
        ∷ leb (slice_count p.slices) (byte 4 (λ e. omega arith) i + 256 * byte 5 (λ e. omega arith) i)
        ∷ not (eqb (byte 6 (λ e. omega arith) i) 0)
        ∷ not (eqb (byte 7 (λ e. omega arith) i) 0)
        ∷ [])

    -- the edges' bits are none of those that are turned
    left : bit (before 1) 0 ≡ bit (after 1) 0
    left = sym (ap (λ (f : ℕ). bit f 0) (flags_byte p.cells n) ∙ (turns (before 1)).zeroth)

    top : bit (before 1) 1 ≡ bit (after 1) 1
    top = sym (ap (λ (f : ℕ). bit f 1) (flags_byte p.cells n) ∙ (turns (before 1)).first)

    in_rule : broken cell_rules before ≡ broken cell_rules after
    in_rule = λ i.
        (ltb 0 (byte 2 (λ e. omega arith) i) && not (left i))
        ∷ (ltb 0 (byte 3 (λ e. omega arith) i) && not (top i))
        ∷ []

  nine : cause9 cell_rules p ≡ cause9 cell_rules (turned p)
  nine = λ i. record { count = cell_count p; bad = λ n. any_of (in_range n i ++ in_rule n i) }

  pub answered : verdict p lent ≡ verdict (turned p) lent
  unfolding verdict
  answered = λ i.
      first_of
      (entry 1 (cause1 p)
      ∷ entry 2 (cause2 p.settings)
      ∷ entry 3 (cause3 p.settings)
      ∷ entry 4 (cause4 p.settings)
      ∷ entry 5 (cause5 p.settings)
      ∷ entry 6 (six i)
      ∷ entry 7 (cause7 p.slices)
      ∷ entry 8 (cause8 p)
      ∷ entry 9 (nine i)
      ∷ entry 10 (cause10 p)
      ∷ [])
