-- A tile of one direction, columns or rows: where it lies, that its samples have one tile number, and that the number
-- rises at its borders.
use Prim.Native.Nat.{ℕ, zero, suc, ◌+◌, ◌-◌, ◌*◌, ◌/◌, ◌%◌, ◌≤◌, ◌<◌}
use mathlib.Core.Path.{◌≡◌, refl, ap, sym, ◌∙◌}
use mathlib.Core.Bool.{cond}
use mathlib.Core.List.{List, [], ◌∷◌}
use mathlib.Core.Logic.{◌⊎◌, inl, inr, ⊎_elim}
use native.Mathlib.Decide.{le_ind}
use native.Mathlib.Nat.{le-div_iff_mul-le, div-lt_iff_lt-mul, mul-le-mul_right, le_refl}
use native.Mathlib.Omega.{arith}
use borrow.Author.Tests.{le-leb, lt-leb, lt-ltb, le-ltb}
use lib.Dec.{leb}
use lib.ListN.{length, get_or}
use Rattle.ints.proofs.Laws.{either}
use Rattle.picture.specs.Accepted.{StartsOk}
use Rattle.picture.specs.Tile.{tile_of, tile_first, tile_end}

-- ---- the count of starts not past a CTB, start by start

abbrev counted : ℕ → ℕ → ℕ
counted start c = cond (leb start c) 1 0

counted_one : (start c : ℕ) → start ≤ c → counted start c ≡ 1
counted_one start c h = rw (le-leb start c h)

counted_none : (start c : ℕ) → c < start → counted start c ≡ 0
counted_none start c h = rw (lt-leb start c h)

counted_mono : (start c d : ℕ) → c ≤ d → counted start c ≤ counted start d
counted_mono start c d h = ⊎_elim
    (λ (k : c < start). omega (arith, counted_none start c k))
    (λ (k : start ≤ c). omega (arith, counted_one start c k, counted_one start d (omega arith)))
    (either c start)

-- a start lies past both of two CTBs, or past neither
abbrev NotBetween : ℕ → ℕ → ℕ → Type 0
NotBetween start c d = ((start ≤ c) × (start ≤ d)) ⊎ ((c < start) × (d < start))

counted_same : (start c d : ℕ) → NotBetween start c d → counted start c ≡ counted start d
counted_same start c d (inl k) = counted_one start c k.0 ∙ sym (counted_one start d k.1)
counted_same start c d (inr k) = counted_none start c k.0 ∙ sym (counted_none start d k.1)

-- ---- the tile numbers of two CTBs

-- equal where no start lies between
tile_same : (l : List ℕ) (c d : ℕ) → ((k : ℕ) → k < length l → NotBetween (get_or l k 0) c d)
    → tile_of l c ≡ tile_of l d
tile_same [] c d h = refl
tile_same (t ∷ r) c d h =
    omega (arith, counted_same t c d (h 0 (omega arith)), tile_same r c d (λ k l. h (suc k) (omega arith)))

tile_mono : (l : List ℕ) (c d : ℕ) → c ≤ d → tile_of l c ≤ tile_of l d
tile_mono [] c d h = omega arith
tile_mono (t ∷ r) c d h = omega (arith, counted_mono t c d h, tile_mono r c d h)

-- less where one lies between
tile_less : (l : List ℕ) (c d k : ℕ) → k < length l → c < get_or l k 0 → get_or l k 0 ≤ d → tile_of l c < tile_of l d
tile_less [] c d k h hc hd = omega arith
tile_less (t ∷ r) c d zero h hc hd =
    omega (arith, counted_none t c hc, counted_one t d hd, tile_mono r c d (omega arith))
tile_less (t ∷ r) c d (suc k) h hc hd =
    omega (arith, counted_mono t c d (omega arith), tile_less r c d k (omega arith) hc hd)

-- a list that rises from each entry to the next rises
rising_le : (l : List ℕ) → ((k : ℕ) → suc k < length l → get_or l k 0 < get_or l (suc k) 0) → (i k : ℕ) → i ≤ k
    → k < length l → get_or l i 0 ≤ get_or l k 0
rising_le l rise i k h =
    le_ind (λ (m : ℕ). m < length l → get_or l i 0 ≤ get_or l m 0) (λ _. le_refl (get_or l i 0))
    (λ m hm ih b. omega (arith, ih (omega arith), rise m b)) k h

-- ---- a tile that starts at sample a and is n samples long

pub record Span (starts : List ℕ) (size total a n : ℕ) : Type 0 where
  pub sixteens : a % 16 ≡ 0
  pub eights : n % 8 ≡ 0
  pub least : 0 < n
  pub fits : n + a ≤ total
  pub same : (p q : ℕ) → p < n → q < n → tile_of starts ((p + a) / size) ≡ tile_of starts ((q + a) / size)
  pub before : 0 < a → tile_of starts ((a - 1) / size) < tile_of starts (a / size)
  pub behind : n + a < total → tile_of starts ((n + a - 1) / size) < tile_of starts ((n + a) / size)

-- of CTBs of 16·m samples
module _ (starts : List ℕ) (many size m total i : ℕ) (size16 : size ≡ 16 * m) (some : 0 < size)
    (ok : StartsOk starts many size total) (total8 : total % 8 ≡ 0) (hi : i < length starts) where
  abbrev first : ℕ
  first = get_or starts i 0 * size

  abbrev end : ℕ
  end = tile_end starts size total i

  start_in : (k : ℕ) → k < length starts → get_or starts k 0 * size < total
  start_in k h = omega (arith, (le-div_iff_mul-le some).0 (ok.below k h))

  start_16 : (k : ℕ) → get_or starts k 0 * size % 16 ≡ 0
  start_16 k = omega (arith, ap (λ (n : ℕ). get_or starts k 0 * n) size16)

  from_start : (k p : ℕ) → get_or starts k 0 * size ≤ p → get_or starts k 0 ≤ p / size
  from_start k p h = (le-div_iff_mul-le some).1 h

  before_start : (k p : ℕ) → p < get_or starts k 0 * size → p / size < get_or starts k 0
  before_start k p h = (div-lt_iff_lt-mul some).1 h

  crossing : (k p : ℕ) → k < length starts → 0 < p → p ≡ get_or starts k 0 * size
      → tile_of starts ((p - 1) / size) < tile_of starts (p / size)
  crossing k p h z e =
      tile_less starts ((p - 1) / size) (p / size) k h (before_start k (p - 1) (omega arith))
      (from_start k p (omega arith))

  -- it ends at the next start, or is the last
  abbrev Next : Type 0
  Next = (suc i < length starts) × (end ≡ get_or starts (suc i) 0 * size)

  abbrev Last : Type 0
  Last = (length starts ≤ suc i) × (end ≡ total)

  ends : Next ⊎ Last
  unfolding tile_end
  ends = ⊎_elim
      (λ (h : suc i < length starts). inl (h, rw (lt-ltb (suc i) (length starts) h)))
      (λ (h : length starts ≤ suc i). inr (h, rw (le-ltb (suc i) (length starts) h)))
      (either (suc i) (length starts))

  lies : (first < end) × (end ≤ total) × (end % 8 ≡ 0)
  lies = ⊎_elim
      (λ (h : Next).
      let step : suc (get_or starts i 0) * size ≤ get_or starts (suc i) 0 * size =
      mul-le-mul_right size (ok.rising i h.0) in
      (omega arith, omega (arith, start_in (suc i) h.0), omega (arith, start_16 (suc i))))
      (λ (h : Last). (omega (arith, start_in i hi), omega arith, omega arith))
      ends

  -- no start lies between two samples of the tile
  none_between : (p q k : ℕ) → first ≤ p → first ≤ q → p < end → q < end → k < length starts
      → NotBetween (get_or starts k 0) (p / size) (q / size)
  none_between p q k hp hq ep eq hk = ⊎_elim
      (λ (h : i < k). ⊎_elim
      (λ (e : Next).
      let later : get_or starts (suc i) 0 ≤ get_or starts k 0 = rising_le starts ok.rising (suc i) k h hk in
      inr (omega (arith, before_start (suc i) p (omega arith)), omega (arith, before_start (suc i) q (omega arith))))
      (λ (e : Last). absurd (omega arith))
      ends)
      (λ (h : k ≤ i).
      let earlier : get_or starts k 0 ≤ get_or starts i 0 = rising_le starts ok.rising k i h hi in
      inl (omega (arith, from_start i p hp), omega (arith, from_start i q hq)))
      (either i k)

  pub span : Span starts size total (tile_first starts size i) (end - tile_first starts size i)
  unfolding tile_first
  span = record {
    sixteens = start_16 i;
    eights = omega (arith, lies, start_16 i);
    least = omega (arith, lies);
    fits = omega (arith, lies);
    same = λ p q hp hq.
        tile_same starts ((p + first) / size) ((q + first) / size)
        (λ k hk. none_between (p + first) (q + first) k (omega arith) (omega arith) (omega arith) (omega arith) hk);
    before = λ h. crossing i first hi h refl;
    behind = λ h. ⊎_elim
        (λ (e : Next). crossing (suc i) (end - first + first) e.0 (omega (arith, lies)) (omega (arith, lies)))
        (λ (e : Last). absurd (omega (arith, lies)))
        ends;
  }
