-- Two lists of rows are equal by their samples.
use Prim.Native.Nat.{ℕ, ◌*◌, ◌/◌, ◌%◌, ◌<◌}
use mathlib.Core.Path.{◌≡◌, sym, ◌∙◌}
use mathlib.Core.List.{List}
use native.Mathlib.Omega.{arith}
use lib.ListN.{length}
use lib.Seq.{ext_get_or}
use Rattle.picture.specs.Plane.{at}
use Rattle.tiles_apart.proofs.Parts.{split, at_split}

pub ext_at : (l l' : List ℕ) (w h : ℕ) → length l ≡ w * h → length l' ≡ w * h
    → ((x y : ℕ) → x < w → y < h → at l w x y ≡ at l' w x y) → l ≡ l'
ext_at l l' w h e e' same = ext_get_or 0 l l' (e ∙ sym e') λ k hk.
    let d = split w h k (omega arith) in
    at_split l w h k d ∙ same (k % w) (k / w) d.column d.row ∙ sym (at_split l' w h k d)
