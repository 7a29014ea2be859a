-- The samples of a plane, taken one by one and row by row.
-- Assumes nothing.
use Rattle.std.proofs.Common.{◌≡◌, ℕ, ◌+◌, ◌*◌, ◌<◌, ◌≤◌, Bool, true, false, cond, List, [], ◌∷◌, ◌++◌}
use Rattle.std.proofs.Common.{length, take, drop, sym, refl, ap, ◌∙◌, le_trans, mul-le-mul_right, mul_comm, add-mul}
use Rattle.std.proofs.Common.{mul-one, arith, length-take, take_all, drop-cons, take-take, drop-drop, take-add}
use Rattle.std.proofs.Common.{eq-eqb, eqb-true, ne_eqb}
use Rattle.picture.specs.Plane.{at}
use Rattle.plane_view.proofs.Places.{place_of, size_at}
use Rattle.plane_view.specs.View.{is_plane, view_size}
use Rattle.fingerprint.specs.Fnv.{basis, step, with_samples, shown, row_shown}
use Rattle.fingerprint.specs.Fnv.{list_fingerprint, plane_fingerprint}

joined : (n : ℕ) (a b : List ℕ) → with_samples n (a ++ b) ≡ with_samples (with_samples n a) b
joined n [] b = refl
joined n (sample ∷ a) b = joined (step n sample) a b

-- k samples, and then the m after them
more : (n k m : ℕ) (l : List ℕ)
    → with_samples (with_samples n (take k l)) (take m (drop k l)) ≡ with_samples n (take (k + m) l)
more n k m l = sym (rw take-add (joined n (take k l) (take m (drop k l))))

module _ (list : List ℕ) (width height : ℕ) where
  -- a plane has a sample at each of its places
  module _ (whole : length list ≡ width * height) (x y : ℕ) (column : x < width) (row : y < height) where
    there : y * width + x < length list
    there = omega (arith, whole, place_of column row)

    one_sample : (n : ℕ) → step n (at list width x y)
        ≡ with_samples n (take 1 (drop (y * width + x) (shown list width height)))
    unfolding shown at
    one_sample n = simp (eq-eqb (length list) (width * height) whole, drop-cons list (y * width + x) 0 there)

    -- x samples of a row, and the next
    pub row_more : (before : ℕ) {n : ℕ} → n ≡ with_samples before (take x (row_shown list width height y))
        → step n (at list width x y) ≡ with_samples before (take (x + 1) (row_shown list width height y))
    unfolding row_shown
    row_more before {n} e =
        let samples = drop (y * width) (shown list width height) in
        let so_far : take x (take width samples) ≡ take x samples = take-take x width samples (omega arith) in
        let then : take (x + 1) (take width samples) ≡ take (x + 1) samples =
        take-take (x + 1) width samples (omega arith) in
        one_sample n ∙ rw (e, so_far, then, ← drop-drop) (more before x 1 samples)

  pub row_all : (n x y : ℕ) → width ≤ x
      → with_samples n (take x (row_shown list width height y)) ≡ with_samples n (row_shown list width height y)
  unfolding row_shown
  row_all n x y end =
      let row = take width (drop (y * width) (shown list width height)) in
      ap (with_samples n) (take_all x row (simp length-take (omega arith)))

  -- y rows, and the next
  pub rows_more : {n : ℕ} (y : ℕ) → n ≡ with_samples basis (take (y * width) (shown list width height))
      → with_samples n (row_shown list width height y)
      ≡ with_samples basis (take ((y + 1) * width) (shown list width height))
  unfolding row_shown
  rows_more y e =
      let next : (y + 1) * width ≡ y * width + width = omega (arith, add-mul y 1 width) in
      rw (e, next) (more basis (y * width) width (shown list width height))

  most_shown : (b : Bool) → is_plane list width height ≡ b → length (cond b list []) ≤ height * width
  most_shown true e = omega (arith, eqb-true (length list) (width * height) e, mul_comm width height)
  most_shown false e = omega arith

  pub rows_all : (y : ℕ) → height ≤ y
      → with_samples basis (take (y * width) (shown list width height)) ≡ plane_fingerprint list width height
  unfolding shown list_fingerprint plane_fingerprint
  rows_all y end =
      let all = most_shown (is_plane list width height) refl in
      ap (with_samples basis)
      (take_all (y * width) (shown list width height) (le_trans all (mul-le-mul_right width end)))

-- a view shows what its plane does, and the refused one nothing
seen_at : (list : List ℕ) (w h : ℕ) (b : Bool) → is_plane list w h ≡ b
    → shown list (size_at b w h).width (size_at b w h).height ≡ shown list w h
unfolding shown
seen_at list w h true e = refl
seen_at list w h false e = simp e (nothing list)
  where
    nothing : (l : List ℕ) → cond (is_plane l 0 0) l [] ≡ []
    nothing [] = refl
    nothing (s ∷ r) = rw (ne_eqb (length (s ∷ r)) 0 (λ e. omega (arith, e))) refl

pub seen : (list : List ℕ) (w h : ℕ)
    → plane_fingerprint list (view_size list w h).width (view_size list w h).height ≡ plane_fingerprint list w h
unfolding plane_fingerprint
seen list w h = ap list_fingerprint (seen_at list w h (is_plane list w h) refl)

-- a list is a plane of one row
pub one_row : (list : List ℕ) → plane_fingerprint list (length list) 1 ≡ list_fingerprint list
unfolding shown plane_fingerprint
one_row list = rw (mul-one, eq-eqb (length list) (length list) refl) refl
