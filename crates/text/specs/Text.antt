-- Text in a lent buffer: the decimal digits of a number, and what it is to append bytes.
use Rattle.std.specs.Prelude.{◌≡◌, true, false, List, [], ◌∷◌, ◌++◌, ℕ, zero, suc, ◌+◌, ◌/◌, ◌%◌, ltb, length, take, drop}

-- the digits of n, found in fewer divisions by ten than `turns`
unfoldable pub decimal_in : ℕ → ℕ → List ℕ
decimal_in zero n = []
decimal_in (suc turns) n =
    elim (ltb n 10) [ true ↦ (48 + n) ∷ [] | false ↦ decimal_in turns (n / 10) ++ ((48 + n % 10) ∷ []) ]

-- the decimal digits of n in ASCII, the fewest that hold it and the most significant first. A division takes at least
-- one off what is ten or more, so n + 1 turns are enough for every n.
unfoldable pub decimal : ℕ → List ℕ
decimal n = decimal_in (suc n) n

-- the buffer `after` is `before` with the bytes put at `at`, and `next` is the place past them
pub record Appended (at : ℕ) (bytes : List ℕ) (before after : List ℕ) (next : ℕ) : Type 0 where
  pub place : next ≡ at + length bytes
  pub len : length after ≡ length before
  pub front : take next after ≡ take at before ++ bytes
  -- what stands past the new text is untouched
  pub rest : drop next after ≡ drop next before

-- the same of a buffer that is lent to be written, as a function is given it and as the function leaves it
abbrev pub Puts : List ℕ → List ℕ → ℕ → List ℕ → ℕ → Type 0
Puts before after at bytes next = Appended at bytes before after next
