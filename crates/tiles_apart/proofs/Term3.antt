-- Term 3 holds.
use Prim.Native.Nat.{ℕ}
use mathlib.Core.Path.{◌≡◌, ap, sym, ◌∙◌}
use Rattle.filter.specs.Finished.{finished, outputs}
use Rattle.filter.proofs.Outputs.{outputs_finished}
use Rattle.picture.specs.Accepted.{Accepted, PictureOk, PlanesOk}
use Rattle.picture.specs.Causes.{verdict}
use Rattle.picture.specs.Cut.{tile_planes, cut}
use Rattle.picture.specs.Ledger.{acceptance}
use Rattle.picture.specs.Picture.{Picture, Planes}
use Rattle.picture.proofs.Accepted.{accepted_by, accepted_is}
use Rattle.tiles_apart.specs.Term3.{AcceptedTile, Apart, Term3}
use Rattle.tiles_apart.proofs.Accept.{accepted, strengths}
use Rattle.tiles_apart.proofs.Outputs.{finished_differences, finished_tile}

module _ (p : Picture) (lent : Planes) (i j : ℕ) (given : AcceptedTile p lent i j) where
  whole : Accepted p lent
  whole = accepted_by p lent given.accepted

  ok : PictureOk p
  ok = whole.picture

  -- the tile taken out of what the stage leaves is the finished cut: nothing but the cut stands on the right
  tile_outputs : tile_planes p i j (outputs p lent) ≡ finished (cut p i j)
  tile_outputs = ap (tile_planes p i j) (outputs_finished p lent given.accepted) ∙ finished_tile ok given.tile

  apart : (own : Planes) → PlanesOk (cut p i j) own → Apart p lent i j own
  apart own own_long =
      let cut_accepted : verdict (cut p i j) own ≡ acceptance =
      accepted_is (cut p i j) own
      (record {
        picture = accepted ok given.tile;
        strengths = strengths ok given.tile whole.strengths;
        outputs_long = own_long;
      }) in
      let cut-finished : outputs (cut p i j) own ≡ finished (cut p i j) =
      outputs_finished (cut p i j) own cut_accepted in
      record {
        cut_accepted = cut_accepted;
        none_differs =
            rw (cut-finished, outputs_finished p lent given.accepted) (finished_differences ok given.tile);
        same_samples = tile_outputs ∙ sym cut-finished;
      }

pub term3 : Term3
term3 = record {
  apart = apart;
  same_cut = λ p lent i j given p' lent' i' j' given' same.
      tile_outputs p lent i j given ∙ ap finished same ∙ sym (tile_outputs p' lent' i' j' given');
}
