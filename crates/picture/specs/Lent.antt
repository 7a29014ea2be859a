-- What a caller lends as a picture, made of the lists as a function is given them or leaves them. Contracts speak of
-- lent pictures by this name.
use Rattle.std.specs.Prelude.{ℕ, List}
use Rattle.picture.specs.declared.Picture as Lent
use Rattle.picture.specs.declared.Planes as Three
use Rattle.picture.specs.declared.Settings as Code
use Rattle.picture.specs.Given.{picture_of, planes_of}
use Rattle.picture.specs.Picture.{Picture, Planes}

-- the settings; the original planes; the cell, slice, tile column and tile row lists
abbrev pub picture_given :
    Code.Settings → List ℕ → List ℕ → List ℕ → List ℕ → List ℕ → List ℕ → List ℕ → Picture
picture_given s y cb cr cells slices columns rows = picture_of s (planes_of y cb cr) cells slices columns rows

-- the same of the code's structs
abbrev pub planes_lent : Three.Planes → Planes
planes_lent s = planes_of s.y.now s.cb.now s.cr.now

abbrev pub picture_lent : Lent.Picture → Picture
picture_lent p =
    picture_given p.settings p.planes.y.now p.planes.cb.now p.planes.cr.now p.cells.now p.slices.now p.columns.now
    p.rows.now
