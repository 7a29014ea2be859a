-- Of the finished planes of an accepted picture, those of a tile are those of its cut.
use Prim.Native.Nat.{ℕ}
use mathlib.Core.Path.{◌≡◌, sym, ◌∙◌}
use native.Mathlib.Omega.{arith}
use Rattle.filter.specs.Count.{differences}
use Rattle.filter.specs.Finished.{finished}
use Rattle.filter.proofs.Outputs.{finished_long, finished_at}
use Rattle.picture.specs.Accepted.{PictureOk, PlanesOk}
use Rattle.picture.specs.Cut.{IsTile, tile_part, tile_planes, cut}
use Rattle.picture.specs.Picture.{Picture, Planes, plane_of, plane_width, plane_height}
use Rattle.picture.specs.Scale.{Component, Y, Cb, Cr}
use Rattle.tiles_apart.proofs.Count.{TileAgrees, none_differ, all_agree}
use Rattle.tiles_apart.proofs.Local.{local}
use Rattle.tiles_apart.proofs.Parts.{crop_at, crop_length}
use Rattle.tiles_apart.proofs.Tables.{ext_at}
use Rattle.tiles_apart.proofs.Tile.{part_inside, plane_of_tile}

planes_same : (a b : Planes) → ((c : Component) → plane_of a c ≡ plane_of b c) → a ≡ b
planes_same a b same = λ k. record { y = same Y k; cb = same Cb k; cr = same Cr k }

module _ {p : Picture} (ok : PictureOk p) {i j : ℕ} (tile : IsTile p i j) where
  -- of the finished planes no sample differs
  pub finished_differences : differences p i j (finished (cut p i j)) (finished p) ≡ 0
  unfolding cut
  finished_differences = none_differ p i j (finished (cut p i j)) (finished p) agree
    where
      agree : TileAgrees p i j (finished (cut p i j)) (finished p)
      agree c x y hx hy =
          let inside = part_inside ok tile c in
          finished_at (cut p i j) c x y hx hy ∙ local ok tile c x y hx hy
          ∙ sym (finished_at p c _ _ (omega arith) (omega arith))

  -- where no sample differs, the tile taken out of the picture's planes is the planes of the cut
  tile_same : (own planes : Planes) → PlanesOk (cut p i j) own → PlanesOk p planes → differences p i j own planes ≡ 0
      → tile_planes p i j planes ≡ own
  unfolding cut
  tile_same own planes own_long long none = planes_same _ _ same
    where
      same : (c : Component) → plane_of (tile_planes p i j planes) c ≡ plane_of own c
      same c =
          let inside = part_inside ok tile c in
          plane_of_tile p i j planes c
          ∙ ext_at _ _ (plane_width (cut p i j) c) (plane_height (cut p i j) c)
          (crop_length (plane_of planes c) (plane_width p c) (plane_height p c) (tile_part p i j c) (long c) inside)
          (own_long c)
          (λ x y hx hy.
          crop_at (plane_of planes c) (plane_width p c) (plane_height p c) (tile_part p i j c) (long c) inside x y hx hy
          ∙ sym (all_agree p i j own planes none c x y hx hy))

  pub finished_tile : tile_planes p i j (finished p) ≡ finished (cut p i j)
  finished_tile =
      tile_same (finished (cut p i j)) (finished p) (finished_long (cut p i j)) (finished_long p) finished_differences
