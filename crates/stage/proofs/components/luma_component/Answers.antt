-- `luma_component` meets its contract: the largest sample is that of the depth.
-- Assumes nothing.
use Prim.Native.Nat.{ℕ}
use mathlib.Core.Path.{ap}
use mathlib.Core.Bool.{true}
use Rattle.filter.specs.declared.Component.{Component}
use Rattle.stage.proofs.components.luma_component.Goals as goal

pub returns : goal.returns
returns c =
    let s = c.args.settings in
    let with-largest : ℕ → Component =
    λ n. record {
      luma = true;
      format = s.chroma_format;
      depth = s.luma_depth;
      offset = 12;
      largest = n;
    } in
    ap with-largest c.largest_at.ensures
