-- Document 01, 'The filter, in order': "Output starts as the original. Then: luma vertical edges, restoration; luma
-- horizontal edges on that result, restoration; Cb and Cr likewise." Clause 8.7.2.1 has the same order of the two
-- directions.
use Rattle.std.specs.Prelude.{ℕ, cond, List, eqb}
use Rattle.filter.specs.Kernel.{kernel}
use Rattle.filter.specs.Pass.{pass}
use Rattle.filter.specs.Segment.{Direction, vertical, horizontal, segment}
use Rattle.picture.specs.Causes.{verdict}
use Rattle.picture.specs.Cell.{suppressed, cell_beneath}
use Rattle.picture.specs.Picture.{Picture, Planes, plane_width, plane_height, original}
use Rattle.picture.specs.Plane.{Plane, table, transposed}
use Rattle.picture.specs.Scale.{Component, Y, Cb, Cr}

-- one of a component's two passes. A horizontal edge is a vertical one of the plane with columns and rows exchanged.
unfoldable pub pass_of : Picture → Component → Direction → Plane → Plane
pass_of p c vertical P = pass kernel (plane_width p c) (segment p c vertical) P
pass_of p c horizontal P = transposed (pass kernel (plane_height p c) (segment p c horizontal) (transposed P))

-- 'Restoration': "After each pass a held cell has its original samples again"; held is suppressed here
unfoldable pub restored : Picture → Component → Plane → Plane
restored p c P x y =
    cond (suppressed p.settings.pcm_loop_filter_disabled (cell_beneath p c x y)) (original p c x y) (P x y)

-- a component's finished samples
unfoldable pub finished_plane : Picture → Component → Plane
finished_plane p c = restored p c (pass_of p c horizontal (restored p c (pass_of p c vertical (original p c))))

-- the finished planes, as lists
unfoldable pub finished : Picture → Planes
finished p = record { y = list Y; cb = list Cb; cr = list Cr }
  where
    list : Component → List ℕ
    list c = table (plane_width p c) (plane_height p c) (finished_plane p c)

-- what the stage leaves in the output planes: the finished planes, or on a refusal what they held ("A refusal changes
-- no output sample")
unfoldable pub outputs : Picture → Planes → Planes
outputs p planes = cond (eqb (verdict p planes).number 0) (finished p) planes
