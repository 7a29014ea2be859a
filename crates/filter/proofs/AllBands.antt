-- The bands of a pass: the ends that its loop goes through, each row in exactly one band, and no window across an end.
use Prim.Native.Nat.{ℕ, zero, suc, ◌+◌, ◌-◌, ◌%◌, ◌≤◌, ◌<◌, min}
use mathlib.Core.Path.{◌≡◌, refl, sym, ap, ap₂, ◌∙◌}
use mathlib.Core.Bool.{Bool, true, false, cond, ◌&&◌}
use mathlib.Core.List.{List, [], ◌∷◌, ◌++◌, append_assoc, append-nil}
use mathlib.Core.Logic.{◌⊎◌, inl, inr, ⊎_elim}
use native.Mathlib.Omega.{arith}
use borrow.Author.Tests.{lt-ltb, le-ltb, le-leb, lt-leb}
use lib.Dec.{leb, ltb}
use Rattle.ints.proofs.Laws.{either}
use Rattle.filter.specs.Bands.{
  ctb_band_end,
  horizontal_band_end,
  bands_from,
  ctb_bands,
  horizontal_bands,
  bands_with,
  Seam,
}

-- ---- one band after another, for any ends

module _ (end : ℕ → ℕ) (total : ℕ) where
  none_left : (fuel r : ℕ) → total ≤ r → bands_from end total fuel r ≡ []
  unfolding bands_from
  none_left zero r h = refl
  none_left (suc fuel) r h = rw (le-ltb r total h)

  one_more : (fuel r : ℕ) → r < total → bands_from end total (suc fuel) r ≡ end r ∷ bands_from end total fuel (end r)
  unfolding bands_from
  one_more fuel r h = rw (lt-ltb r total h)

-- a pass that has come to row r: the ends that it went through, and after them those that it has ahead
pub record Through (ends : List ℕ) (end : ℕ → ℕ) (total r : ℕ) : Type 0 where
  pub past : List ℕ
  pub fuel : ℕ
  pub whole : past ++ bands_from end total fuel r ≡ ends
  pub enough : total ≤ r + fuel

pub through_start : (end : ℕ → ℕ) (total : ℕ) → Through (bands_from end total total 0) end total 0
through_start end total = record { past = []; fuel = total; whole = refl; enough = omega arith }

-- the next band ends at the next end of the list
pub through_next : {ends : List ℕ} {end : ℕ → ℕ} {total r : ℕ} → r < total → r < end r → Through ends end total r
    → Through ends end total (end r)
through_next {ends} {end} {total} {r} less rises t = go t.fuel t.whole t.enough
  where
    go : (fuel : ℕ) → t.past ++ bands_from end total fuel r ≡ ends → total ≤ r + fuel → Through ends end total (end r)
    go zero whole enough = absurd (omega arith)
    go (suc fuel) whole enough = record {
      past = t.past ++ (end r ∷ []);
      fuel = fuel;
      whole =
          append_assoc t.past (end r ∷ []) (bands_from end total fuel (end r))
          ∙ ap (λ (l : List ℕ). t.past ++ l) (sym (one_more end total fuel r less))
          ∙ whole;
      enough = omega arith;
    }

-- at the end it went through all of them
pub through_all : {ends : List ℕ} {end : ℕ → ℕ} {total r : ℕ} (t : Through ends end total r) → total ≤ r
    → t.past ≡ ends
through_all {ends} {end} {total} {r} t h =
    sym (append-nil t.past) ∙ ap (λ (l : List ℕ). t.past ++ l) (sym (none_left end total t.fuel r h)) ∙ t.whole

-- ---- each row lies in exactly one band, where each band has a row and ends within the plane

module _ (end : ℕ → ℕ) (total : ℕ) (within : (r : ℕ) → r < total → (r < end r) × (end r ≤ total)) where
  -- none of the bands from row r on has a row above r
  above : (fuel r y : ℕ) → y < r → bands_with y r (bands_from end total fuel r) ≡ 0
  unfolding bands_from
  above zero r y h = refl
  above (suc fuel) r y h =
      ⊎_elim
      (λ less.
      let later : bands_with y (end r) (bands_from end total fuel (end r)) ≡ 0 =
      above fuel (end r) y (omega (arith, (within r less).0)) in
      rw (one_more end total fuel r less, lt-leb r y h) (omega arith))
      (λ past. rw (none_left end total (suc fuel) r past))
      (either r total)

  below : (fuel r y : ℕ) → total ≤ r + fuel → r ≤ y → y < total → bands_with y r (bands_from end total fuel r) ≡ 1
  below zero r y enough h less = absurd (omega arith)
  below (suc fuel) r y enough h less =
      let rises : r < end r = (within r (omega arith)).0 in
      rw (one_more end total fuel r (omega arith), le-leb r y h)
      (⊎_elim
      (λ here. rw (lt-ltb y (end r) here) (omega (arith, above fuel (end r) y here)))
      (λ later. rw (le-ltb y (end r) later) (omega (arith, below fuel (end r) y (omega arith) later less)))
      (either y (end r)))

  one_band : (y : ℕ) → y < total → bands_with y 0 (bands_from end total total 0) ≡ 1
  one_band y h = below total 0 y (omega arith) (omega arith) h

-- ---- all ends have what each next end has

abbrev pub AllOf : (ℕ → Type 0) → List ℕ → Type 0
AllOf P [] = Unit {0}
AllOf P (x ∷ r) = P x × AllOf P r

all_ends : (end : ℕ → ℕ) (total : ℕ) (P : ℕ → Type 0) → ((r : ℕ) → r < total → P r → P (end r))
    → (fuel r : ℕ) → P r → AllOf P (bands_from end total fuel r)
unfolding bands_from
all_ends end total P next zero r h = tt
all_ends end total P next (suc fuel) r h =
    ⊎_elim
    (λ less. rw (one_more end total fuel r less)
    (next r less h, all_ends end total P next fuel (end r) (next r less h)))
    (λ past. rw (none_left end total (suc fuel) r past) tt)
    (either r total)

-- ---- the two kinds of bands

pub ctb_end : (total height r : ℕ) → 0 < height → r < total
    → (r < ctb_band_end total height r) × (ctb_band_end total height r ≤ total)
unfolding ctb_band_end
ctb_end total height r some less = (omega arith, omega arith)

pub horizontal_end : (total height r : ℕ) → 0 < height → r < total
    → (r < horizontal_band_end total height r) × (horizontal_band_end total height r ≤ total)
    × Seam total (horizontal_band_end total height r)
unfolding horizontal_band_end
horizontal_end total height r some less = ⊎_elim inside last (either (r + height) total)
  where
    m : ℕ
    m = (r + height) % 8

    is : ℕ → Type 0
    is e = (r < e) × (e ≤ total) × Seam total e

    -- four rows below an edge, or the end where that comes first
    cut : (e : ℕ) → r < e → e % 8 ≡ 4 → is (min e total)
    cut e rises four =
        ⊎_elim (λ h. (omega arith, omega arith, inr (inr (omega arith))))
        (λ h. (omega arith, omega arith, inr (inl (omega arith))))
        (either e total)

    last : total ≤ r + height → is (horizontal_band_end total height r)
    last h = simp (le-leb total (r + height) h) (omega arith, omega arith, inr (inl refl))

    inside : r + height < total → is (horizontal_band_end total height r)
    inside h =
        ⊎_elim (λ high. simp (lt-leb total (r + height) h, lt-leb m 4 high)
        (cut (r + height + 12 - m) (omega arith) (omega arith)))
        (λ low. simp (lt-leb total (r + height) h, le-leb m 4 low)
        (cut (r + height + 4 - m) (omega arith) (omega arith)))
        (either 4 m)

-- a pass through its bands: where it starts, and the band after which it goes on at row e
pub ctb_start : (total height : ℕ) → Through (ctb_bands total height) (ctb_band_end total height) total 0
unfolding ctb_bands
ctb_start total height = through_start (ctb_band_end total height) total

pub ctb_next : {total height r e : ℕ} → e ≡ ctb_band_end total height r → 0 < height → r < total
    → Through (ctb_bands total height) (ctb_band_end total height) total r
    → Through (ctb_bands total height) (ctb_band_end total height) total e
ctb_next {total} {height} {r} is some less t = rw is (through_next less (ctb_end total height r some less).0 t)

pub horizontal_start : (total height : ℕ)
    → Through (horizontal_bands total height) (horizontal_band_end total height) total 0
unfolding horizontal_bands
horizontal_start total height = through_start (horizontal_band_end total height) total

pub horizontal_next : {total height r e : ℕ} → e ≡ horizontal_band_end total height r → 0 < height → r < total
    → Through (horizontal_bands total height) (horizontal_band_end total height) total r
    → Through (horizontal_bands total height) (horizontal_band_end total height) total e
horizontal_next {total} {height} {r} is some less t =
    rw is (through_next less (horizontal_end total height r some less).0 t)

-- the vertical pass: no end lies within the four rows of a segment, and each row lies in one band
pub ctb_bands_lem : (total height : ℕ) → 0 < height → height % 4 ≡ 0 → total % 4 ≡ 0
    → AllOf (λ e. e % 4 ≡ 0) (ctb_bands total height)
    × ((y : ℕ) → y < total → bands_with y 0 (ctb_bands total height) ≡ 1)
unfolding ctb_bands ctb_band_end
ctb_bands_lem total height some h4 t4 = (
  all_ends (ctb_band_end total height) total (λ e. e % 4 ≡ 0) (λ r less r4. omega arith) total 0 refl,
  one_band (ctb_band_end total height) total (λ r less. ctb_end total height r some less),
)

-- the horizontal pass: no end lies within the eight rows around an edge, and each row lies in one band
pub horizontal_bands_lem : (total height : ℕ) → 0 < height
    → AllOf (Seam total) (horizontal_bands total height)
    × ((y : ℕ) → y < total → bands_with y 0 (horizontal_bands total height) ≡ 1)
unfolding horizontal_bands
horizontal_bands_lem total height some = (
  all_ends (horizontal_band_end total height) total (Seam total)
      (λ r less _. (horizontal_end total height r some less).2) total 0
      (inl refl),
  one_band (horizontal_band_end total height) total
      (λ r less. let h = horizontal_end total height r some less in (h.0, h.1)),
)
