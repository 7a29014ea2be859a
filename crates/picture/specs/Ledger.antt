-- Document 01, 'Refusal ledger': "The result is a number and a place; 0 with place 0 means accepted. The checks run
-- in this order and the first that applies is returned." A ledger is a list of entries, each a cause under its
-- number. A cause says how many things it looks at and which of them are bad; its place is the first bad one.
use Rattle.std.specs.Prelude.{ℕ, zero, suc, ◌+◌, ◌-◌, Bool, true, false, cond, List, [], ◌∷◌, ltb, Option, Some, None}

pub record Verdict : Type 0 where
  pub number : ℕ
  pub place : ℕ

-- "0 with place 0 means accepted"
abbrev pub acceptance : Verdict
acceptance = record { number = 0; place = 0 }

pub record Cause : Type 0 where
  pub count : ℕ
  pub bad : ℕ → Bool

-- the first bad one of n from k on, or the end
abbrev pub first_bad : (ℕ → Bool) → ℕ → ℕ → ℕ
first_bad bad k zero = k
first_bad bad k (suc n) = let r = first_bad bad (suc k) n in cond (bad k) k r

abbrev pub place_of : Cause → ℕ
place_of c = first_bad c.bad 0 c.count

-- the same as an option: the first bad one, or none where no entry is bad
abbrev pub first_place : Cause → Option ℕ
first_place c = cond (ltb (place_of c) c.count) (Some (place_of c)) None

-- a cause under its number
pub record Entry : Type 0 where
  pub number : ℕ
  pub cause : Cause

abbrev pub entry : ℕ → Cause → Entry
entry number cause = record { number = number; cause = cause }

-- the first entry that applies; where none does the answer is acceptance
abbrev pub first_of : List Entry → Verdict
first_of [] = acceptance
first_of (e ∷ r) =
    let rest = first_of r in
    cond (ltb (place_of e.cause) e.cause.count) (record { number = e.number; place = place_of e.cause }) rest

-- one of the tests holds
abbrev pub any_of : List Bool → Bool
any_of [] = false
any_of (b ∷ r) = cond b true (any_of r)

-- a cause of place 0
abbrev pub once : List Bool → Cause
once tests = record { count = 1; bad = λ _. any_of tests }

-- the things that one cause looks at, and after them those of another
abbrev pub and_then : Cause → Cause → Cause
and_then c d = record {
  count = c.count + d.count;
  bad = λ k. cond (ltb k c.count) (c.bad k) (d.bad (k - c.count));
}
