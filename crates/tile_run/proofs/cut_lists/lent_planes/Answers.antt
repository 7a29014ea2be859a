-- `lent_planes` meets its contract: each list is what `length_of` ensures of its samples.
-- Assumes nothing.
use Prim.Native.Nat.{ℕ, ◌+◌}
use mathlib.Core.Path.{ap, ◌∙◌}
use Rattle.tile_run.specs.CutLists.{length_of, lent_planes, plane_samples}
use Rattle.tile_run.proofs.cut_lists.lent_planes.Goals as goal

pub returns : goal.returns
unfolding lent_planes
returns c =
    let a = c.args in
    let samples = c.plane_samples-chroma.ensures ∙ ap plane_samples c.chroma_size.ensures in
    λ i. record {
      y = (c.length_of.ensures
          ∙ ap (λ (n : ℕ). length_of a.first n a.wrong 40000) c.plane_samples-luma.ensures) i;
      cb = (c.length_of-2.ensures
          ∙ ap (λ (n : ℕ). length_of (a.first + 1) n a.wrong 40000) samples) i;
      cr = (c.length_of-3.ensures
          ∙ ap (λ (n : ℕ). length_of (a.first + 2) n a.wrong 40000) samples) i;
    }
