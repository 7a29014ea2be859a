-- Term 3 of the order: a tile is filtered exactly as if it were a picture alone. `verdict` and `outputs` are the
-- answer and the planes that the stage's contract names: what is said of them here is said of the stage.
use Rattle.std.specs.Prelude.{ℕ, ◌≡◌}
use Rattle.filter.specs.Count.{differences}
use Rattle.filter.specs.Finished.{outputs}
use Rattle.picture.specs.Accepted.{PlanesOk}
use Rattle.picture.specs.Causes.{verdict}
use Rattle.picture.specs.Cut.{IsTile, cut, tile_planes}
use Rattle.picture.specs.Ledger.{acceptance}
use Rattle.picture.specs.Picture.{Picture, Planes}

-- tile (i, j) of an accepted picture; `lent` are the output planes lent with the picture, holding anything
pub record AcceptedTile (p : Picture) (lent : Planes) (i j : ℕ) : Type 0 where
  pub accepted : verdict p lent ≡ acceptance
  pub tile : IsTile p i j

-- what is promised of it, `own` being the output planes lent with its cut
pub record Apart (p : Picture) (lent : Planes) (i j : ℕ) (own : Planes) : Type 0 where
  -- "the tile cut out is an accepted sheet too"
  pub cut_accepted : verdict (cut p i j) own ≡ acceptance
  -- "the count of samples, over all planes together, in which the tile, filtered by the stage under the rules of term
  -- 2 within its sheet, differs from that cut so filtered as a sheet by itself is zero"
  pub none_differs : differences p i j (outputs (cut p i j) own) (outputs p lent) ≡ 0
  -- the same as lists: the tile taken out of the picture's outputs is the outputs of its cut
  pub same_samples : tile_planes p i j (outputs p lent) ≡ outputs (cut p i j) own

pub record Term3 : Type 0 where
  -- "For every accepted sheet and every tile of it", "Whatever the output planes held before": those of the cut are
  -- "of its own lengths holding anything"
  pub apart : (p : Picture) (lent : Planes) (i j : ℕ) → AcceptedTile p lent i j → (own : Planes)
      → PlanesOk (cut p i j) own → Apart p lent i j own
  -- "Nothing that the neighbours hold may move it, lossless marks included: where two tiles, of one accepted sheet or
  -- of two, give the same cut, their finished samples are the same, whatever the sheets' sizes, whatever else they
  -- hold and wherever the tiles lie."
  pub same_cut :
      (p : Picture) (lent : Planes) (i j : ℕ) → AcceptedTile p lent i j
      → (p' : Picture) (lent' : Planes) (i' j' : ℕ) → AcceptedTile p' lent' i' j'
      → cut p i j ≡ cut p' i' j'
      → tile_planes p i j (outputs p lent) ≡ tile_planes p' i' j' (outputs p' lent')
