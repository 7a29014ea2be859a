-- The counts of C-20 on a window: of each line, what lies beyond the counted samples next to the edge stays as it was.
use Prim.Native.Nat.{ℕ}
use Rattle.filter.specs.Kernel.{luma, line_of, kernel}
use Rattle.lines.specs.Counted.{SameBeyond}
use Rattle.lines.specs.Decision.{decision, counts_of}
use Rattle.lines.proofs.Counted.{line_beyond}
use Rattle.picture.specs.Plane.{Plane}

pub kernel_beyond : (β tc largest : ℕ) (W : Plane) (j : ℕ)
    → SameBeyond (counts_of (decision β tc (line_of W 0) (line_of W 3))) (line_of W j)
    (line_of (kernel (luma β tc largest) W) j)
unfolding kernel
kernel_beyond β tc largest W j = line_beyond (decision β tc (line_of W 0) (line_of W 3)) largest tc (line_of W j)
