-- Document 01, 'Bands': where a pass over a plane is cut into bands of rows. "Passes over bands equal one pass over
-- the plane": no sample can show where it is cut. proofs/AllBands.antt has what can be said of the bands: each row
-- lies in exactly one, and no window crosses an end; the invariants of the passes' loops say that they go through
-- these very lists.
use Rattle.std.specs.Prelude.{ℕ, zero, suc, ◌+◌, ◌-◌, ◌%◌, min, ◌≡◌, cond, ◌&&◌, List, [], ◌∷◌, ◌⊎◌, leb, ltb}
use Rattle.picture.specs.Picture.{Settings, ctb_size, down}
use Rattle.picture.specs.Scale.{Component}

-- "Vertical passes are cut at CTB heights (chroma: CTB height over the vertical scale)."
abbrev pub band_height : Settings → Component → ℕ
band_height t c = down t c (ctb_size t)

-- where the band of the vertical pass that starts at row r ends
unfoldable pub ctb_band_end : ℕ → ℕ → ℕ → ℕ
ctb_band_end total height r = min (r + height) total

-- "Horizontal bands: from r, the target is r plus that height. At or past the total, the band ends at the total.
-- Otherwise it ends at target + 4 − m for m = target mod 8 at most 4, else target + 12 − m, never past the total."
unfoldable pub horizontal_band_end : ℕ → ℕ → ℕ → ℕ
horizontal_band_end total height r =
    let target : ℕ = r + height in
    let m : ℕ = target % 8 in
    cond (leb total target) total
    (min (cond (leb m 4) (target + 4 - m) (target + 12 - m)) total)

-- the ends of the bands from row r on, at most `fuel` of them
unfoldable pub bands_from : (ℕ → ℕ) → ℕ → ℕ → ℕ → List ℕ
bands_from end total zero r = []
bands_from end total (suc fuel) r = cond (ltb r total) (end r ∷ bands_from end total fuel (end r)) []

-- the ends of all bands of a plane of `total` rows; there are no more bands than rows
unfoldable pub ctb_bands : ℕ → ℕ → List ℕ
ctb_bands total height = bands_from (ctb_band_end total height) total total 0

unfoldable pub horizontal_bands : ℕ → ℕ → List ℕ
horizontal_bands total height = bands_from (horizontal_band_end total height) total total 0

-- in how many of the bands a row lies, of those from row r on that end at these rows
abbrev pub bands_with : ℕ → ℕ → List ℕ → ℕ
bands_with y r [] = 0
bands_with y r (end ∷ more) = cond (leb r y && ltb y end) 1 0 + bands_with y end more

-- a row of a plane of h rows before which no window of a horizontal edge is cut: the first, the end, or four below an
-- edge
abbrev pub Seam : ℕ → ℕ → Type 0
Seam h r = (r ≡ 0) ⊎ ((r ≡ h) ⊎ (r % 8 ≡ 4))
