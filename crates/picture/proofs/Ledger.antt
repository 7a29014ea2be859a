-- The laws of refusal ledgers, for any entries: the first bad thing that a cause looks at, the place of a cause, and
-- the first entry that applies.
use Prim.Native.Nat.{ℕ, zero, suc, ◌+◌, ◌-◌, ◌≤◌, ◌<◌}
use mathlib.Core.Path.{◌≡◌, refl, sym, ap, ◌∙◌}
use mathlib.Core.Bool.{Bool, true, false, cond, not}
use mathlib.Core.List.{List, [], ◌∷◌, ◌++◌}
use mathlib.Core.Logic.{◌⊎◌, inl, inr}
use native.Mathlib.Omega.{arith}
use borrow.Author.Tests.{ltb-false, leb-false, eqb-true, lt-ltb, le-ltb, lt-leb, eq-eqb, not-false}
use lib.Dec.{ltb, eqb}
use Rattle.ints.proofs.Laws.{either, lt_false, le-lt}
use Rattle.picture.specs.Ledger.{
  Verdict,
  acceptance,
  Cause,
  Entry,
  entry,
  first_bad,
  place_of,
  first_of,
  any_of,
  once,
  and_then,
}

-- ---- tests that fail, and the facts that they leave

pub eq_not : (m n : ℕ) → m ≡ n → not (eqb m n) ≡ false
eq_not m n e = rw (eq-eqb m n e)

pub not_eq : (m n : ℕ) → not (eqb m n) ≡ false → m ≡ n
not_eq m n e = eqb-true m n (not-false (eqb m n) e)

-- for `search`: from the failed test to the fact, and from the fact to the failed test
pub ruleset to_fact = (ltb-false, leb-false, not_eq, lt_false)

pub ruleset to_test = (le-ltb, lt-leb, eq_not, le-lt)

abbrev pub NoneOf : List Bool → Type 0
NoneOf [] = Unit {0}
NoneOf (b ∷ r) = (b ≡ false) × NoneOf r

pub none_out : (tests : List Bool) → any_of tests ≡ false → NoneOf tests
none_out [] e = tt
none_out (true ∷ r) e = absurd (let z : ◌≡◌ {A = ℕ} 0 1 = cc in omega arith)
none_out (false ∷ r) e = (refl, none_out r e)

pub none_in : (tests : List Bool) → NoneOf tests → any_of tests ≡ false
none_in [] h = refl
none_in (b ∷ r) h = rw h.0 (none_in r h.1)

-- tests of two lists
pub none_join : (a b : List Bool) → NoneOf a → NoneOf b → NoneOf (a ++ b)
none_join [] b h k = k
none_join (x ∷ r) b h k = (h.0, none_join r b h.1 k)

pub none_part : (a b : List Bool) → NoneOf (a ++ b) → NoneOf a × NoneOf b
none_part [] b h = (tt, h)
none_part (x ∷ r) b h = let (l, k) = none_part r b h.1 in ((h.0, l), k)

-- tests that do not hold add nothing, before others or after them
pub none_first : (a b : List Bool) → NoneOf a → any_of (a ++ b) ≡ any_of b
none_first [] b h = refl
none_first (x ∷ r) b h = rw h.0 (none_first r b h.1)

pub none_last : (a b : List Bool) → NoneOf b → any_of (a ++ b) ≡ any_of a
none_last [] b h = none_in b h
none_last (x ∷ r) b h = ap (λ (rest : Bool). cond x true rest) (none_last r b h)

-- ---- the first bad entry of n from k on

-- where entry k + i stands before it, entry k is good
before : (t : Bool) (k r i : ℕ) → k + i < cond t k r → (t ≡ false) × (k + i < r)
before true k r i h = absurd (omega arith)
before false k r i h = (refl, h)

module _ (bad : ℕ → Bool) where
  -- every entry before it is good
  pub first_good : (k n i : ℕ) → k + i < first_bad bad k n → bad (k + i) ≡ false
  first_good k zero i h = absurd (omega arith)
  first_good k (suc n) zero h = ap bad (omega arith) ∙ (before (bad k) k (first_bad bad (suc k) n) 0 h).0
  first_good k (suc n) (suc i) h =
      ap bad (omega arith)
      ∙ first_good (suc k) n i (omega (arith, (before (bad k) k (first_bad bad (suc k) n) (suc i) h).1))

  -- it is bad where it is not the end
  pub first_bad_lem : (k n : ℕ) → first_bad bad k n < k + n → bad (first_bad bad k n) ≡ true
  first_bad_lem k zero h = absurd (omega arith)
  first_bad_lem k (suc n) h = go (bad k) refl (first_bad_lem (suc k) n) h
    where
      go : (t : Bool) → bad k ≡ t → (first_bad bad (suc k) n < suc k + n → bad (first_bad bad (suc k) n) ≡ true)
          → cond t k (first_bad bad (suc k) n) < k + suc n → bad (cond t k (first_bad bad (suc k) n)) ≡ true
      go true e ih h = e
      go false e ih h = ih (omega arith)

  -- it is the end where none is bad
  pub first_from : (k n : ℕ) → ((i : ℕ) → i < n → bad (k + i) ≡ false) → first_bad bad k n ≡ k + n
  first_from k zero h = omega arith
  first_from k (suc n) h =
      let good : bad k ≡ false = ap bad (omega arith) ∙ h 0 (omega arith) in
      rw good (first_from (suc k) n (λ i hi. ap bad (omega arith) ∙ h (suc i) (omega arith)) ∙ omega arith)

  -- it is the bad entry that only good ones precede
  pub first_at : (k n i : ℕ) → i < n → ((j : ℕ) → j < i → bad (k + j) ≡ false) → bad (k + i) ≡ true
      → first_bad bad k n ≡ k + i
  first_at k zero i hi h b = absurd (omega arith)
  first_at k (suc n) zero hi h b =
      let here : bad k ≡ true = ap bad (omega arith) ∙ b in
      rw here (omega arith)
  first_at k (suc n) (suc i) hi h b =
      let good : bad k ≡ false = ap bad (omega arith) ∙ h 0 (omega arith) in
      let next =
      first_at (suc k) n i (omega arith) (λ j hj. ap bad (omega arith) ∙ h (suc j) (omega arith))
      (ap bad (omega arith) ∙ b) in
      rw good (next ∙ omega arith)

-- it is the same where the same entries are bad
first_same : (f g : ℕ → Bool) (k n : ℕ) → ((i : ℕ) → i < n → f (k + i) ≡ g (k + i)) → first_bad f k n ≡ first_bad g k n
first_same f g k zero h = refl
first_same f g k (suc n) h =
    let here : k ≡ k + 0 = omega arith in
    let first : f k ≡ g k = ap f here ∙ h 0 (omega arith) ∙ ap g (sym here) in
    λ i. cond (first i) k (first_same f g (suc k) n next i)
  where
    next : (i : ℕ) → i < n → f (suc k + i) ≡ g (suc k + i)
    next i hi =
        let there : suc k + i ≡ k + suc i = omega arith in
        ap f there ∙ h (suc i) (omega arith) ∙ ap g (sym there)

-- ---- the place of a cause

-- a cause that does not apply
abbrev pub Good : Cause → Type 0
Good c = (k : ℕ) → k < c.count → c.bad k ≡ false

module _ (c : Cause) where
  pub place_good : (i : ℕ) → i < place_of c → c.bad i ≡ false
  place_good i h = ap c.bad (omega arith) ∙ first_good c.bad 0 c.count i (omega arith)

  pub place_bad : place_of c < c.count → c.bad (place_of c) ≡ true
  place_bad h = first_bad_lem c.bad 0 c.count (omega arith)

  pub place_end : Good c → place_of c ≡ c.count
  place_end h = first_from c.bad 0 c.count (λ i hi. ap c.bad (omega arith) ∙ h i hi) ∙ omega arith

  pub place_at : (i : ℕ) → i < c.count → ((j : ℕ) → j < i → c.bad j ≡ false) → c.bad i ≡ true → place_of c ≡ i
  place_at i hi h b =
      first_at c.bad 0 c.count i hi (λ j hj. ap c.bad (omega arith) ∙ h j hj) (ap c.bad (omega arith) ∙ b)
      ∙ omega arith

  -- a cause that does not apply is passed over, and one that applies is returned
  pub passed : (n : ℕ) (r : List Entry) → Good c → first_of (entry n c ∷ r) ≡ first_of r
  passed n r h = rw (le-ltb (place_of c) c.count (omega (arith, place_end h)))

  pub returned : (n : ℕ) (r : List Entry) → place_of c < c.count
      → first_of (entry n c ∷ r) ≡ record { number = n; place = place_of c }
  returned n r h = rw (lt-ltb (place_of c) c.count h)

-- a cause of place 0
pub once_in : (tests : List Bool) → NoneOf tests → Good (once tests)
once_in tests h k hk = none_in tests h

pub once_out : (tests : List Bool) → Good (once tests) → NoneOf tests
once_out tests h = none_out tests (h 0 (omega arith))

-- two causes, the entries of one after those of the other
module _ (c d : Cause) where
  then_here : (k : ℕ) → k < c.count → (and_then c d).bad k ≡ c.bad k
  then_here k h = rw (lt-ltb k c.count h)

  then_past : (k : ℕ) → (and_then c d).bad (c.count + k) ≡ d.bad k
  then_past k = rw (le-ltb (c.count + k) c.count (omega arith)) (ap d.bad (omega arith))

  then_upto : Good c → (n : ℕ) → ((k : ℕ) → k < n → d.bad k ≡ false) → (k : ℕ) → k < c.count + n
      → (and_then c d).bad k ≡ false
  then_upto hc n hd k hk = go (either k c.count)
    where
      go : (k < c.count) ⊎ (c.count ≤ k) → (and_then c d).bad k ≡ false
      go (inl l) = then_here k l ∙ hc k l
      go (inr l) = ap (and_then c d).bad (omega arith) ∙ then_past (k - c.count) ∙ hd (k - c.count) (omega arith)

  pub then_in : Good c → Good d → Good (and_then c d)
  then_in hc hd = then_upto hc d.count hd

  pub then_out : Good (and_then c d) → Good c × Good d
  then_out h =
      (λ k hk. sym (then_here k hk) ∙ h k (omega arith), λ k hk. sym (then_past k) ∙ h (c.count + k) (omega arith))

  -- their place is the first's where that applies; else the second's, numbered on
  pub then_first : place_of c < c.count → place_of (and_then c d) ≡ place_of c
  then_first h =
      place_at (and_then c d) (place_of c) (omega arith) (λ j hj. then_here j (omega arith) ∙ place_good c j hj)
      (then_here (place_of c) h ∙ place_bad c h)

  pub then_second : Good c → place_of (and_then c d) ≡ c.count + place_of d
  then_second hc = go (either (place_of d) d.count)
    where
      go : (place_of d < d.count) ⊎ (d.count ≤ place_of d) → place_of (and_then c d) ≡ c.count + place_of d
      go (inl l) =
          place_at (and_then c d) (c.count + place_of d) (omega arith) (then_upto hc (place_of d) (place_good d))
          (then_past (place_of d) ∙ place_bad d l)
      go (inr l) =
          let hd : Good d = λ k hk. place_good d k (omega arith) in
          place_end (and_then c d) (then_in hc hd) ∙ omega (arith, place_end d hd)

-- two causes that find the same things bad, among as many, have one place
pub place_same : (c d : Cause) → c.count ≡ d.count → ((k : ℕ) → k < c.count → c.bad k ≡ d.bad k)
    → place_of c ≡ place_of d
place_same c d count h =
    first_same c.bad d.bad 0 c.count (λ i hi. ap c.bad (omega arith) ∙ h i hi ∙ ap d.bad (omega arith))
    ∙ ap (first_bad d.bad 0) count

-- ---- a list of entries

-- what comes of an entry, where `rest` comes of those after it
abbrev answered : Entry → Verdict → Verdict
answered e rest =
    cond (ltb (place_of e.cause) e.cause.count) (record { number = e.number; place = place_of e.cause }) rest

-- one cause for another of the same count and place
pub exchanged : (before : List Entry) (n : ℕ) (c d : Cause) (after : List Entry) → c.count ≡ d.count
    → place_of c ≡ place_of d → first_of (before ++ (entry n c ∷ after)) ≡ first_of (before ++ (entry n d ∷ after))
exchanged [] n c d after count place = λ i.
    cond (ltb (place i) (count i)) (record { number = n; place = place i }) (first_of after)
exchanged (e ∷ before) n c d after count place = ap (answered e) (exchanged before n c d after count place)

abbrev pub AllGood : List Entry → Type 0
AllGood [] = Unit {0}
AllGood (e ∷ r) = Good e.cause × AllGood r

-- no entry has the number of acceptance
abbrev pub AllNumbered : List Entry → Type 0
AllNumbered [] = Unit {0}
AllNumbered (e ∷ r) = (0 < e.number) × AllNumbered r

pub good_in : (l : List Entry) → AllGood l → first_of l ≡ acceptance
good_in [] h = refl
good_in (e ∷ r) h = passed e.cause e.number r h.0 ∙ good_in r h.1

-- entries that do not apply are passed over, before others or after them
pub first_passed : (before after : List Entry) → AllGood before → first_of (before ++ after) ≡ first_of after
first_passed [] after h = refl
first_passed (e ∷ r) after h = passed e.cause e.number (r ++ after) h.0 ∙ first_passed r after h.1

pub last_passed : (before after : List Entry) → AllGood after → first_of (before ++ after) ≡ first_of before
last_passed [] after h = good_in after h
last_passed (e ∷ before) after h = ap (answered e) (last_passed before after h)

skipped : (t : Bool) (n p : ℕ) (rest : Verdict) → 0 < n → (cond t (record { number = n; place = p }) rest).number ≡ 0
    → (t ≡ false) × (rest.number ≡ 0)
skipped true n p rest h e = absurd (omega arith)
skipped false n p rest h e = (refl, e)

-- the number alone tells it
pub good_out : (l : List Entry) → AllNumbered l → (first_of l).number ≡ 0 → AllGood l
good_out [] h e = tt
good_out (d ∷ r) h e =
    let c = d.cause in
    let (end, rest) = skipped (ltb (place_of c) c.count) d.number (place_of c) (first_of r) h.0 e in
    (λ k hk. place_good c k (omega (arith, ltb-false (place_of c) c.count end)), good_out r h.1 rest)
