-- The answer of a ledger, entry by entry: a cause that applies gives it, and one that does not leaves it to the rest.
use Prim.Native.Nat.{ℕ, ◌≤◌, ◌<◌}
use mathlib.Core.Path.{◌≡◌, refl, sym, ap, ◌∙◌}
use mathlib.Core.Bool.{Bool, true, false, cond}
use mathlib.Core.List.{List, [], ◌∷◌, ◌++◌}
use native.Mathlib.Omega.{arith}
use lib.Dec.{ltb}
use Rattle.std.specs.Prelude.{Result, Ok, Err}
use Rattle.picture.specs.Causes.{Rule, bad_ctb, bad_depths, bad_lists, bad_planes, bad_size}
use Rattle.picture.specs.Causes.{cause1, cause6, ledger}
use Rattle.picture.specs.declared.Settings as Code
use Rattle.picture.specs.Given.{bare, picture_of, settings_of}
use Rattle.picture.specs.Ledger.{Entry, Verdict, any_of, entry, first_of, once, place_of}
use Rattle.picture.specs.Picture.{Picture, Planes}
use Rattle.picture.proofs.Ledger.{AllGood, AllNumbered, Good, NoneOf, good_out, none_out, none_part, once_out}
use Rattle.picture.proofs.Ledger.{passed, to_fact}
use Rattle.checks.specs.Lengths.{bad_lengths}
use Rattle.ledger.specs.declared.Refusal.{Refusal}
use Rattle.ledger.specs.Numbered.{numbered, refused}
use Rattle.ledger.specs.Parts.{Settled, lists_part, settings_part}
use Rattle.ledger.proofs.Refusals.{refuses}

-- the answer v is left to the entries l
pub record LeftTo (v : Verdict) (l : List Entry) : Type 0 where
  pub answer : v ≡ first_of l

pub all_left : (l : List Entry) → LeftTo (first_of l) l
all_left l = record { answer = refl }

pub answers : {v w : Verdict} {l : List Entry} → LeftTo v l → w ≡ first_of l → w ≡ v
answers left e = e ∙ sym left.answer

-- ---- a cause of place 0

module _ (tests : List Bool) {b : Bool} (e : b ≡ any_of tests) {v : Verdict} {n : ℕ} {r : List Entry}
    (left : LeftTo v (entry n (once tests) ∷ r)) where
  pub stops : b ≡ true → record { number = n; place = 0 } ≡ v
  stops h =
      let holds : any_of tests ≡ true = sym e ∙ h in
      sym (rw holds at left.answer)

  pub goes_on : b ≡ false → LeftTo v r
  goes_on h =
      let fails : any_of tests ≡ false = sym e ∙ h in
      record { answer = rw fails at left.answer }

-- ---- the ledger's first entries and the others

parts_are : (lent : List Bool) (rules : List Rule) (p : Picture)
    → settings_part p ++ (entry 6 (cause6 lent p) ∷ lists_part rules p) ≡ ledger lent rules p
parts_are lent rules p = refl

-- a refusal by the first ones is the answer
pub refused_by : (l m : List Entry) {v : Verdict} → v ≡ first_of l → 0 < v.number → v ≡ first_of (l ++ m)
refused_by [] m e h = absurd (omega (arith, ap (λ (w : Verdict). w.number) e))
refused_by (d ∷ r) m {v} e h =
    go (ltb (place_of d.cause) d.cause.count) e (λ f. refused_by r m f h)
  where
    here : Verdict
    here = record { number = d.number; place = place_of d.cause }

    go : (t : Bool) → v ≡ cond t here (first_of r) → (v ≡ first_of r → v ≡ first_of (r ++ m))
        → v ≡ cond t here (first_of (r ++ m))
    go true e next = e
    go false e next = next e

-- so is one that `?` passes on
pub passed_on : (l m : List Entry) {r s : Result (Unit {0}) Refusal} {x y : Refusal} → numbered r ≡ first_of l
    → r ≡ Err x → s ≡ Err y → y ≡ x → numbered s ≡ first_of (l ++ m)
passed_on l m {x = x} e f g h =
    ap numbered g ∙ ap refused h ∙ refused_by l m (sym (ap numbered f) ∙ e) (refuses x)

-- where none of them applies the answer is left to the others
pub goes_past_all : (l m : List Entry) {v : Verdict} → AllGood l → LeftTo v (l ++ m) → LeftTo v m
goes_past_all [] m h left = left
goes_past_all (d ∷ r) m h left =
    goes_past_all r m h.1 (record { answer = left.answer ∙ passed d.cause d.number (r ++ m) h.0 })

-- ---- the answer of the first ones, as they are told

-- acceptance says that none of them applies
pub told_good : (l : List Entry) → AllNumbered l → {r : Result (Unit {0}) Refusal} → numbered r ≡ first_of l
    → r ≡ Ok tt → AllGood l
told_good l all e accepted =
    good_out l all (ap (λ (v : Verdict). v.number) (sym e ∙ ap numbered accepted))

-- so the answer is left to the others
pub told_past : (l m : List Entry) → AllNumbered l → {r : Result (Unit {0}) Refusal} {v : Verdict}
    → numbered r ≡ first_of l → r ≡ Ok tt → LeftTo v (l ++ m) → LeftTo v m
told_past l m all e accepted left = goes_past_all l m (told_good l all e accepted) left

-- ---- what causes 1 to 6 leave where they do not apply

pub sizes_fit : (s : Code.Settings) → Good (cause1 (bare s)) → (s.width ≤ 8192) × (s.height ≤ 8192)
sizes_fit s good =
    let h = once_out (bad_size s.width ++ bad_size s.height) good in
    search to_fact depth 1

pub depths_fit : (s : Code.Settings) → NoneOf (bad_depths (settings_of s))
    → (s.luma_depth ≤ 16) × (s.chroma_depth ≤ 16)
depths_fit s h = search to_fact depth 1

module _ (s : Code.Settings) (good : AllGood (settings_part (bare s))) where
  pub sizes : (s.width ≤ 8192) × (s.height ≤ 8192)
  sizes = sizes_fit s good.0

  pub settled : (originals : Planes) (cells slices columns rows : List ℕ) (lent : List Bool) {b : Bool}
      → b ≡ any_of (bad_lengths lent (picture_of s originals cells slices columns rows)) → b ≡ false → Settled s cells
  settled originals cells slices columns rows lent e h =
      let p = picture_of s originals cells slices columns rows in
      let h1 = once_out (bad_size s.width ++ bad_size s.height) good.0 in
      let h3 = once_out (bad_depths (settings_of s)) good.1.1.0 in
      let h4 = once_out (bad_ctb (settings_of s)) good.1.1.1.0 in
      let h6 = none_part (bad_planes p originals) (lent ++ bad_lists p) (none_out (bad_lengths lent p) (sym e ∙ h)) in
      let lists = (none_part lent (bad_lists p) h6.1).1 in
      search to_fact depth 1
