-- `chroma_component` meets its contract: the largest sample is that of the depth.
-- Assumes nothing.
use Prim.Native.Nat.{ℕ}
use mathlib.Core.Path.{ap}
use mathlib.Core.Bool.{false}
use Rattle.filter.specs.declared.Component.{Component}
use Rattle.stage.proofs.components.chroma_component.Goals as goal

pub returns : goal.returns
returns c =
    let s = c.args.settings in
    let with-largest : ℕ → Component =
    λ n. record {
      luma = false;
      format = s.chroma_format;
      depth = s.chroma_depth;
      offset = c.args.offset;
      largest = n;
    } in
    ap with-largest c.largest_at.ensures
