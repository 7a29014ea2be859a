-- The first bad entry of a cause as an option: by its place, as `find` tells it, and of two causes one after another.
use Prim.Native.Nat.{ℕ, ◌+◌, ◌≤◌, ◌<◌}
use mathlib.Core.Path.{◌≡◌, refl, sym, ap, ◌∙◌}
use mathlib.Core.Bool.{true, false}
use mathlib.Core.Logic.{◌⊎◌, inl, inr}
use native.Mathlib.Omega.{arith}
use borrow.Author.Tests.{lt-ltb, le-ltb, ltb-true}
use lib.Dec.{ltb}
use Rattle.std.specs.Prelude.{Option, Some, None}
use Rattle.std.specs.Option.{MatchOption}
use Rattle.std.proofs.lemmas.Option.{cond_some, none-some}
use Rattle.ints.proofs.Laws.{either}
use Rattle.picture.specs.Ledger.{Cause, and_then, first_place, place_of}
use Rattle.picture.proofs.Ledger.{Good, place_at, place_end, place_good, then_first, then_in, then_second}

-- ---- the first place of a cause, by its place

module _ (c : Cause) where
  pub place_some : {n : ℕ} → n ≡ place_of c → n < c.count → Some n ≡ first_place c
  place_some {n} e h = rw (sym e, lt-ltb n c.count h) refl

  pub place_none : Good c → None ≡ first_place c
  place_none good = rw (place_end c good, le-ltb c.count c.count (omega arith)) refl

  -- it is the bad entry that only good ones precede
  pub found_at : {i : ℕ} → i < c.count → ((k : ℕ) → k < i → c.bad k ≡ false) → c.bad i ≡ true
      → Some i ≡ first_place c
  found_at {i} h before b = place_some (sym (place_at c i h before b)) h

  -- and back: it is the place, of a bad entry, and where there is none all entries are good
  pub some_place : {n : ℕ} → first_place c ≡ Some n → (n ≡ place_of c) × (n < c.count)
  some_place {n} e =
      let p = cond_some (ltb (place_of c) c.count) (place_of c) n e in
      (sym p.1, omega (arith, ltb-true (place_of c) c.count p.0, p.1))

  pub no_place : first_place c ≡ None → Good c
  no_place e k h = go (either (place_of c) c.count)
    where
      go : (place_of c < c.count) ⊎ (c.count ≤ place_of c) → c.bad k ≡ false
      go (inl l) = absurd (none-some (place_of c) (sym e ∙ sym (place_some refl l)))
      go (inr l) = place_good c k (omega arith)

-- ---- a search among the entries, as `find` tells it over the range of their numbers

pub found_first : (c : Cause) (r : Option ℕ)
    → MatchOption r ((k : ℕ) → 0 ≤ k → k < c.count → c.bad k ≡ false)
    (λ (i : ℕ). (0 ≤ i) × (i < c.count) × (c.bad i ≡ true) × ((k : ℕ) → 0 ≤ k → k < i → c.bad k ≡ false))
    → r ≡ first_place c
found_first c None h = place_none c (λ k hk. h k (omega arith) hk)
found_first c (Some i) h = found_at c h.1 (λ k hk. h.3 k (omega arith) hk) h.2

-- ---- the first place of two causes: in the first, or past all of it in the second

not_some : {r : Option ℕ} → ((n : ℕ) → r ≡ Some n → ⊥) → r ≡ None
not_some {r = Some n} h = absurd (h n refl)
not_some {r = None} h = refl

module _ (c d : Cause) {r s : Option ℕ} (e : r ≡ first_place c) (f : s ≡ first_place d) where
  pub in_first : {n : ℕ} → r ≡ Some n → Some n ≡ first_place (and_then c d)
  in_first {n} some =
      let p = some_place c (sym e ∙ some) in
      place_some (and_then c d) (p.0 ∙ sym (then_first c d (omega (arith, p.0, p.1)))) (omega (arith, p.1))

  -- where none is found in the first
  module _ (none : (n : ℕ) → r ≡ Some n → ⊥) where
    good : Good c
    good = no_place c (sym e ∙ not_some none)

    pub in_second : {n : ℕ} → s ≡ Some n → Some (c.count + n) ≡ first_place (and_then c d)
    in_second {n} some =
        let p = some_place d (sym f ∙ some) in
        place_some (and_then c d) (ap (λ (i : ℕ). c.count + i) p.0 ∙ sym (then_second c d good)) (omega (arith, p.1))

    pub in_neither : s ≡ None → None ≡ first_place (and_then c d)
    in_neither none2 = place_none (and_then c d) (then_in c d good (no_place d (sym f ∙ none2)))
