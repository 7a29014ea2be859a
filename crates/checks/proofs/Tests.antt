-- Tests of a list, or'd together one after another, as the code tries them.
use mathlib.Core.Path.{◌≡◌, refl, sym, ap₂, ◌∙◌}
use mathlib.Core.Bool.{Bool, true, false, ◌||◌}
use mathlib.Core.List.{List, [], ◌∷◌, ◌++◌}
use Rattle.picture.specs.Ledger.{any_of}

abbrev pub or_from : Bool → List Bool → Bool
or_from b [] = b
or_from b (t ∷ r) = or_from (b || t) r

abbrev pub or_of : List Bool → Bool
or_of [] = false
or_of (b ∷ r) = or_from b r

pub one_test : (b : Bool) → b ≡ any_of (b ∷ [])
one_test true = refl
one_test false = refl

-- a list after another
any_join : (l m : List Bool) → (any_of l || any_of m) ≡ any_of (l ++ m)
any_join [] m = refl
any_join (true ∷ l) m = refl
any_join (false ∷ l) m = any_join l m

pub any_both : (l m : List Bool) {r s : Bool} → r ≡ any_of l → s ≡ any_of m → (r || s) ≡ any_of (l ++ m)
any_both l m e f = ap₂ ◌||◌ e f ∙ any_join l m

pub any_same : (l k m : List Bool) → any_of l ≡ any_of k → any_of (l ++ m) ≡ any_of (k ++ m)
any_same l k m e = sym (any_both l m refl refl) ∙ any_both k m e refl

-- one by one after a list
any_rest : (b : Bool) (m : List Bool) → or_from b m ≡ (b || any_of m)
any_rest true [] = refl
any_rest false [] = refl
any_rest true (t ∷ m) = any_rest true m
any_rest false (t ∷ m) = any_rest t m ∙ any_both (t ∷ []) m (one_test t) refl

pub any_more : (l m : List Bool) {r : Bool} → r ≡ any_of l → or_from r m ≡ any_of (l ++ m)
any_more l m e = any_rest _ m ∙ any_both l m e refl

pub any_of_lem : (l : List Bool) → or_of l ≡ any_of l
any_of_lem [] = refl
any_of_lem (b ∷ r) = any_more (b ∷ []) r (one_test b)
