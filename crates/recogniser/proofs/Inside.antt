-- A pixel inside planes that passed their checks: the samples under it, and what they give.
use Prim.Native.Nat.{ℕ, ◌+◌, ◌-◌, ◌*◌, ◌^◌, ◌≤◌, ◌<◌}
use mathlib.Core.Path.{◌≡◌, ap}
use native.Mathlib.Nat.{mul_comm}
use native.Mathlib.Omega.{arith}
use lib.ListN.{get_or, length}
use lib.Pow.{pow_pos}
use Rattle.picture.specs.Accepted.{GivenPlanesOk}
use Rattle.picture.specs.Picture.{Picture, across, depth_of, down, plane_height, plane_of, plane_width}
use Rattle.picture.specs.Plane.{at}
use Rattle.picture.specs.Scale.{Component, Y, Cb, Cr, chroma_across, chroma_down}
use Rattle.picture.proofs.Index.{within_rows}
use Rattle.picture.proofs.Scale.{from_luma_less, present_across, present_down}
use Rattle.recogniser.specs.Pixel.{under}

-- where the chroma samples under a pixel stand in their planes
abbrev pub chroma_index : Picture → ℕ → ℕ → ℕ
chroma_index p column row = down p.settings Cb row * plane_width p Cb + across p.settings Cb column

module _ (p : Picture) (ok : GivenPlanesOk p) where
  -- every sample is in its range
  pub in_range : (c : Component) {k : ℕ} → k < length (plane_of p.originals c)
      → get_or (plane_of p.originals c) k 0 < 2 ^ depth_of p.settings c
  in_range c {k} h =
      let d = depth_of p.settings c in
      below (get_or (plane_of p.originals c) k 0) (2 ^ d) (pow_pos d) (ok.samples c k h)
    where
      below : (a b : ℕ) → 0 < b → a ≤ b - 1 → a < b
      below a b h k = omega arith

  -- the luma sample at a pixel, and the chroma samples under it, stand in their planes
  module _ (column row : ℕ) (inside : (column < p.width) × (row < p.height)) where
    pub luma_in : {k : ℕ} → k ≡ row * p.width + column → k < length p.originals.y
    luma_in e =
        let within = within_rows p.width p.height row column inside.1 inside.0 in
        omega (arith, within, ok.originals Y, mul_comm p.width p.height)

    module _ (some : p.settings.format ≡ 0 → ⊥) {k : ℕ} (e : k ≡ chroma_index p column row) where
      within : k < plane_width p Cb * plane_height p Cb
      within =
          let f = p.settings.format in
          let x = from_luma_less (chroma_across f) (present_across f some) inside.0 ok.width.eights in
          let y = from_luma_less (chroma_down f) (present_down f some) inside.1 ok.height.eights in
          let w = plane_width p Cb in
          let h = plane_height p Cb in
          let rows = within_rows w h (down p.settings Cb row) (across p.settings Cb column) y x in
          omega (arith, rows, mul_comm h w)

      pub cb_in : k < length p.originals.cb
      cb_in = omega (arith, within, ok.originals Cb)

      pub cr_in : k < length p.originals.cr
      cr_in = omega (arith, within, ok.originals Cr)

-- the samples that the code reads are those under the pixel
module _ (p : Picture) (column row : ℕ) {k : ℕ} where
  pub luma_under : k ≡ row * p.width + column → get_or p.originals.y k 0 ≡ under p Y column row
  unfolding at
  luma_under e = ap (λ (n : ℕ). get_or p.originals.y n 0) e

  pub cb_under : k ≡ chroma_index p column row → get_or p.originals.cb k 0 ≡ under p Cb column row
  unfolding at
  cb_under e = ap (λ (n : ℕ). get_or p.originals.cb n 0) e

  pub cr_under : k ≡ chroma_index p column row → get_or p.originals.cr k 0 ≡ under p Cr column row
  unfolding at
  cr_under e = ap (λ (n : ℕ). get_or p.originals.cr n 0) e
