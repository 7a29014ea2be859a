-- The turned list byte by byte and record by record: only the flags are others, and they stand where they stood.
use Prim.Native.Nat.{ℕ, zero, suc, ◌+◌, ◌*◌, ◌%◌}
use mathlib.Core.Path.{◌≡◌, refl, ap, ◌∙◌}
use mathlib.Core.Bool.{Bool, true, false, cond}
use mathlib.Core.List.{List, [], ◌∷◌}
use native.Mathlib.Omega.{arith}
use borrow.Author.Tests.{eq-eqb, ne_eqb}
use lib.Dec.{eqb}
use lib.ListN.{length, get_or}
use Rattle.picture.specs.Cell.{cell_byte, cell_at}
use Rattle.picture.specs.declared.Cell.{Cell}
use Rattle.palette_cells.specs.Palette.{lossless_for, turned_byte, turned_from}

pub same_length : (k : ℕ) (l : List ℕ) → length (turned_from k l) ≡ length l
same_length k [] = refl
same_length k (byte ∷ rest) = ap suc (same_length (suc k) rest)

-- past the end both lists read 0
either_way : (b : Bool) (n : ℕ) → n ≡ cond b n n
either_way true n = refl
either_way false n = refl

byte_at : (k : ℕ) (l : List ℕ) (n : ℕ) → get_or (turned_from k l) n 0 ≡ turned_byte (k + n) (get_or l n 0)
byte_at k [] n = either_way (eqb ((k + n) % 8) 1) 0
byte_at k (byte ∷ rest) zero = let here : k ≡ k + 0 = omega arith in ap (λ (j : ℕ). turned_byte j byte) here
byte_at k (byte ∷ rest) (suc n) =
    let there : suc k + n ≡ k + suc n = omega arith in
    byte_at (suc k) rest n ∙ ap (λ (j : ℕ). turned_byte j (get_or rest n 0)) there

turns_flags : (k byte : ℕ) → k % 8 ≡ 1 → turned_byte k byte ≡ lossless_for byte
turns_flags k byte e = rw (eq-eqb _ _ e)

keeps_others : (k byte : ℕ) → (k % 8 ≡ 1 → ⊥) → turned_byte k byte ≡ byte
keeps_others k byte other = rw (ne_eqb _ _ other)

-- a record with its flags turned
abbrev pub turned_cell : Cell → Cell
turned_cell c = record {
  qp = c.qp;
  flags = lossless_for c.flags;
  bsv = c.bsv;
  bsh = c.bsh;
  slice = c.slice;
}

module _ (cells : List ℕ) (n : ℕ) where
  pub flags_byte : cell_byte (turned_from 0 cells) n 1 ≡ lossless_for (cell_byte cells n 1)
  flags_byte = byte_at 0 cells (8 * n + 1) ∙ turns_flags (0 + (8 * n + 1)) (cell_byte cells n 1) (omega arith)

  pub other_byte : (b : ℕ) → ((0 + (8 * n + b)) % 8 ≡ 1 → ⊥)
      → cell_byte (turned_from 0 cells) n b ≡ cell_byte cells n b
  other_byte b other = byte_at 0 cells (8 * n + b) ∙ keeps_others (0 + (8 * n + b)) (cell_byte cells n b) other

  pub cell_turned : cell_at (turned_from 0 cells) n ≡ turned_cell (cell_at cells n)
  unfolding cell_at
  cell_turned = λ i. record {
    qp = other_byte 0 (λ e. omega arith) i;
    flags = flags_byte i;
    bsv = other_byte 2 (λ e. omega arith) i;
    bsh = other_byte 3 (λ e. omega arith) i;
    slice = other_byte 4 (λ e. omega arith) i + 256 * other_byte 5 (λ e. omega arith) i;
  }
