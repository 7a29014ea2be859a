-- The components of a picture as the code has them, and the frames of their planes.
use Rattle.std.specs.Prelude.{ℕ, ◌≡◌, true, false}
use Rattle.ints.specs.Int.{◌⊖◌}
use Rattle.filter.specs.declared.Component.{Component}
use Rattle.filter.specs.Bands.{band_height}
use Rattle.picture.specs.Picture.{Picture, Settings, depth_of, largest, plane_width, plane_height}
use Rattle.picture.specs.Scale as Scale
use Rattle.picture.specs.Scale.{Y, Cb, Cr, cell_of}
use Rattle.segments.specs.declared.Frame.{Frame}

-- the struct of a component; o is its offset plus 12
abbrev pub component_for : Settings → ℕ → Scale.Component → Component
component_for t o c = record {
  luma = elim c [ Y ↦ true | Cb ↦ false | Cr ↦ false ];
  format = t.format;
  depth = depth_of t c;
  offset = o;
  largest = largest t c;
}

abbrev pub OffsetIs : Settings → ℕ → Scale.Component → Type 0
OffsetIs t o Y = Unit {0}
OffsetIs t o Cb = o ⊖ 12 ≡ t.cb_offset
OffsetIs t o Cr = o ⊖ 12 ≡ t.cr_offset

-- the frame of a component's plane
abbrev pub frame_for : Picture → Scale.Component → Frame
frame_for p c = record {
  columns = plane_width p c;
  rows = plane_height p c;
  cell_columns = record { 0 = cell_of p.width };
  cell_rows = cell_of p.height;
  log2_ctb = p.settings.log2_ctb;
  band = band_height p.settings c;
}
