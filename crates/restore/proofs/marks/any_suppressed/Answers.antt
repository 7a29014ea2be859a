-- `any_suppressed` meets its contract: what `any` says of the numbers below the count, said of the cells.
-- Assumes nothing.
use Rattle.std.proofs.Common.{ℕ, ◌<◌, ◌≡◌, ◌/◌, Bool, true, false, List, length, MatchBool, refl, subst, sym, ◌∙◌, arith, rules, tests}
use Rattle.std.specs.List.{HoldsAt, AllWithin, range_with_len}
use Rattle.std.proofs.lemmas.Bool.{false≢true}
use Rattle.std.proofs.lemmas.Iterator.{cases_from_any, YieldsList-from_range}
use Rattle.std.proofs.lemmas.List.FromFn.{length-range_with_len, get_or-range_with_len}
use Rattle.picture.specs.Cell.{suppressed, cell_at}
use Rattle.restore.specs.Restored.{AnySuppressed}
use Rattle.restore.proofs.marks.any_suppressed.Goals as goal

abbrev Marked : Bool → List ℕ → Bool → ℕ → Type 0
Marked pcm cells mark n = suppressed pcm (cell_at cells n) ≡ mark

answered : (pcm : Bool) (cells : List ℕ) (r : Bool)
    → let all = range_with_len 0 (length cells / 8) in
    MatchBool r ((k : ℕ) × (k < length all) × HoldsAt (Marked pcm cells true) all k)
    (AllWithin (Marked pcm cells false) all 0 (length all))
    → AnySuppressed pcm cells r
answered pcm cells true h =
    let n = length cells / 8 in
    let less : h.0 < n = omega (arith, h.1, length-range_with_len 0 n) in
    record {
      some = λ _.
          record {
            number = h.0;
            listed = less;
            is = subst (Marked pcm cells true) (get_or-range_with_len 0 n h.0 0 less ∙ omega arith) (h.2 0);
          };
      none = λ no. absurd (false≢true (sym no));
    }
answered pcm cells false h =
    let n = length cells / 8 in
    record {
      some = λ no. absurd (false≢true no);
      none = λ _ k less.
          subst (Marked pcm cells false) (get_or-range_with_len 0 n k 0 less ∙ omega arith)
          (h k 0 (omega arith) (omega (arith, less, length-range_with_len 0 n)));
    }

pub returns : goal.returns
returns c =
    let a = c.args in
    let n = length a.cells.now / 8 in
    answered a.pcm a.cells.now _
    (cases_from_any _ _ _ (Marked a.pcm a.cells.now true) (Marked a.pcm a.cells.now false) c.any.ensures.ran
    (YieldsList-from_range 0 n n refl (omega arith)) (λ x q k. search (rules, tests)) (λ x q k. search (rules, tests)))
