-- Document 01, 'The cut': "Term 3 counts, over all planes, the positions of the cut whose sample in the cut's output
-- differs from the sheet's output at that position moved by the tile's first column and row in that plane."
use Rattle.std.specs.Prelude.{ℕ, ◌+◌, cond, eqb}
use Rattle.ints.specs.Sum.{sum}
use Rattle.picture.specs.Cut.{tile_part, cut}
use Rattle.picture.specs.Picture.{Picture, Planes, plane_of, plane_width}
use Rattle.picture.specs.Plane.{Plane, Part, at}
use Rattle.picture.specs.Scale.{Component, Y, Cb, Cr}

-- 1 where two samples differ
abbrev pub differ : ℕ → ℕ → ℕ
differ m n = cond (eqb m n) 0 1

-- the positions of a part in which P' differs from P moved there
unfoldable pub differing : Plane → Plane → Part → ℕ
differing P' P part =
    sum part.height (λ y. sum part.width (λ x. differ (P' x y) (P (x + part.x) (y + part.y))))

-- the samples, over all planes, in which the output of tile (i, j) as a picture alone differs from the tile's in the
-- picture's output
unfoldable pub differences : Picture → ℕ → ℕ → Planes → Planes → ℕ
differences p i j cutOutput output = in_plane Y + in_plane Cb + in_plane Cr
  where
    in_plane : Component → ℕ
    in_plane c =
        differing (at (plane_of cutOutput c) (plane_width (cut p i j) c)) (at (plane_of output c) (plane_width p c))
        (tile_part p i j c)
