-- `farthest_move`'s loop: the farthest of the places so far is known.
use Rattle.moves.specs.Farthest.{FarthestOf, distances}
use Rattle.moves.proofs.farthest_move.Given as goal

abbrev pub invariant-loop-place : goal.invariant-loop-place
invariant-loop-place l = FarthestOf (distances l.before l.after) l.place l.farthest
