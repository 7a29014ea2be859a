-- Cell and slice records read byte by byte, and the tiles' starts counted.
use Prim.Native.Nat.{ℕ, ◌+◌, ◌*◌}
use mathlib.Core.Path.{◌≡◌, refl}
use mathlib.Core.Bool.{Bool, true, false, cond}
use mathlib.Core.List.{List, [], ◌∷◌}
use native.Mathlib.Omega.{arith}
use lib.Dec.{leb, eqb}
use lib.ListN.{length, get_or}
use Rattle.std.specs.List.{count_by}
use Rattle.std.proofs.lemmas.List.Recursion.{is_count_by}
use Rattle.picture.specs.Cell.{cell_at}
use Rattle.picture.specs.Slice.{slice_at}
use Rattle.picture.specs.Tile.{tile_of}

pub cell_made : (l : List ℕ) (n s : ℕ) → s ≡ get_or l (8 * n + 4) 0 + 256 * get_or l (8 * n + 5) 0
    → record {
      qp = get_or l (8 * n) 0;
      flags = get_or l (8 * n + 1) 0;
      bsv = get_or l (8 * n + 2) 0;
      bsh = get_or l
          (8 * n + 3) 0;
      slice = s;
    } ≡ cell_at l n
unfolding cell_at
cell_made l n s e =
    let first : 8 * n ≡ 8 * n + 0 = omega arith in
    λ i. record {
      qp = get_or l (first i) 0;
      flags = get_or l (8 * n + 1) 0;
      bsv = get_or l (8 * n + 2) 0;
      bsh = get_or l
          (8 * n + 3) 0;
      slice = e i;
    }

-- ---- slices: an empty list, and one with records

pub slice_default : (l : List ℕ) (n : ℕ) → length l ≡ 0
    → record { disabled = false; beta = 6; tc = 5; across = true } ≡ slice_at l n
unfolding slice_at
slice_default [] n e = refl
slice_default (x ∷ r) n e = absurd (omega arith)

pub slice_made : (l : List ℕ) (n : ℕ) → (length l ≡ 0 → ⊥)
    → record {
      disabled = eqb (get_or l (4 * n) 0) 1;
      beta = get_or l (4 * n + 1) 0;
      tc = get_or l
          (4 * n + 2) 0;
      across = eqb (get_or l (4 * n + 3) 0) 1;
    } ≡ slice_at l n
unfolding slice_at
slice_made [] n some = absurd (some refl)
slice_made (x ∷ r) n some =
    let first : 4 * n ≡ 4 * n + 0 = omega arith in
    λ i. record {
      disabled = eqb (get_or (x ∷ r) (first i) 0) 1;
      beta = get_or (x ∷ r) (4 * n + 1) 0;
      tc = get_or (x ∷ r) (4 * n + 2) 0;
      across = eqb (get_or (x ∷ r) (4 * n + 3) 0) 1;
    }

-- ---- tiles: a tile's number is how many starts pass a test

one_more : (t : Bool) (n : ℕ) → cond t 1 0 + n ≡ cond t (1 + n) n
one_more true n = refl
one_more false n = omega arith

pub starts_counted : (ctb : ℕ) (l : List ℕ) → tile_of l ctb ≡ count_by (λ start. leb start ctb) l
starts_counted ctb =
    is_count_by (λ l. tile_of l ctb) (λ start. leb start ctb) refl (λ start l. one_more (leb start ctb) (tile_of l ctb))
