-- The empty list stands for a list that gives the same verdict, and filters alike between cells of slice 0.
use Prim.Native.Nat.{ℕ, ◌+◌, ◌*◌, ◌≤◌, ◌<◌}
use mathlib.Core.Path.{◌≡◌, refl, ap, ◌∙◌}
use mathlib.Core.Bool.{Bool}
use mathlib.Core.List.{List, []}
use mathlib.Core.Logic.{◌⊎◌, inl, inr}
use native.Mathlib.Omega.{arith}
use lib.ListN.{get_or-eq_default}
use Rattle.filter.specs.Finished.{finished, outputs}
use Rattle.filter.specs.Segment.{Direction, between, segment_at}
use Rattle.filter.proofs.Alike.{Alike, finished_alike, outputs_alike}
use Rattle.ints.proofs.Laws.{either}
use Rattle.picture.specs.Accepted.{PictureOk}
use Rattle.picture.specs.Causes.{verdict}
use Rattle.picture.specs.Cell.{cell_at, cell_byte, cell_count, cell_of_sample}
use Rattle.picture.specs.declared.Cell.{Cell}
use Rattle.picture.specs.Picture.{Picture, Planes, Settings}
use Rattle.picture.specs.Scale.{Component}
use Rattle.picture.specs.Tile.{same_tile}
use Rattle.picture.proofs.Accepted.{accepted_by, accepted_number}
use Rattle.empty_slice_list.specs.EmptyList.{with_slices, StandsFor}

-- every cell of an accepted picture with an empty list names slice 0, and past the last cell the bytes are 0
cell_zero : (p : Picture) → PictureOk (with_slices [] p) → (n : ℕ) → (cell_at p.cells n).slice ≡ 0
unfolding cell_at
cell_zero p ok n = go (either n (cell_count p))
  where
    go : (n < cell_count p) ⊎ (cell_count p ≤ n) → cell_byte p.cells n 4 + 256 * cell_byte p.cells n 5 ≡ 0
    go (inl h) = omega (arith, (ok.cells n h).slice)
    go (inr h) =
        omega (
          arith,
          ok.cells_long,
          get_or-eq_default p.cells 0 {n = 8 * n + 4} (omega (arith, ok.cells_long)),
          get_or-eq_default p.cells 0 {n = 8 * n + 5} (omega (arith, ok.cells_long)),
        )

-- a picture whose own list is empty
emptied : (p : Picture) → p.slices ≡ [] → p ≡ with_slices [] p
emptied p e = ap (λ (l : List ℕ). with_slices l p) e

abbrev pub SameVerdict : List ℕ → Type 0
SameVerdict l = (p : Picture) (lent : Planes) → verdict (with_slices [] p) lent ≡ verdict (with_slices l p) lent

abbrev pub SameBetween : List ℕ → Type 0
SameBetween l =
    (t : Settings) (c : Component) (d : Direction) (a b : Cell) (tile : Bool) → a.slice ≡ 0 → b.slice ≡ 0
    → between t [] c d a b tile ≡ between t l c d a b tile

module _ (l : List ℕ) (same_verdict : SameVerdict l) (same-between : SameBetween l) where
  alike : (p : Picture) → PictureOk (with_slices [] p) → Alike p p.cells [] p.cells l
  unfolding segment_at same_tile
  alike p ok c d a b =
      same-between p.settings c d (cell_of_sample p a.x a.y) (cell_of_sample p b.x b.y)
      (same_tile p a.x a.y b.x b.y) (cell_zero p ok _) (cell_zero p ok _)

  same_outputs : (p : Picture) (lent : Planes) → outputs (with_slices [] p) lent ≡ outputs (with_slices l p) lent
  same_outputs p lent = outputs_alike (with_slices [] p) (with_slices l p) lent (same_verdict p lent) accepted
    where
      accepted : (verdict (with_slices [] p) lent).number ≡ 0 → finished (with_slices [] p) ≡ finished (with_slices l p)
      accepted e =
          let ok = (accepted_by (with_slices [] p) lent (accepted_number (with_slices [] p) lent e)).picture in
          finished_alike p p.cells [] p.cells l (alike p ok) (λ c x y. refl)

  pub stands : StandsFor l
  stands = record {
    same_verdict = λ p lent e. ap (λ (q : Picture). verdict q lent) (emptied p e) ∙ same_verdict p lent;
    same_outputs = λ p lent e. ap (λ (q : Picture). outputs q lent) (emptied p e) ∙ same_outputs p lent;
  }
