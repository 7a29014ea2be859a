-- The answer by the picture's verdict; and by term 3 no sample differs.
use mathlib.Core.Path.{◌≡◌, sym, ap, ◌∙◌}
use mathlib.Core.Bool.{true, false}
use native.Mathlib.Omega.{arith}
use borrow.Author.Tests.{eq-eqb, lt-leb, ne_eqb}
use lib.Dec.{eqb}
use lib.ListN.{length}
use Rattle.filter.specs.Finished.{outputs}
use Rattle.ledger.specs.declared.Refusal.{Refusal}
use Rattle.ledger.specs.Numbered as Numbered
use Rattle.ledger.proofs.Refusals.{refuses}
use Rattle.picture.specs.Accepted.{Accepted}
use Rattle.picture.specs.Causes.{verdict}
use Rattle.picture.specs.Ledger.{acceptance, any_of}
use Rattle.picture.specs.Picture.{Picture, Planes}
use Rattle.picture.specs.Scale.{Y, Cb, Cr}
use Rattle.picture.proofs.Accepted.{accepted_by}
use Rattle.picture.proofs.Ledger.{none_in, to_test}
use Rattle.tile_parts.specs.declared.TileAt.{TileAt}
use Rattle.tiles_apart.proofs.Term3.{term3}
use Rattle.tile_check.specs.Answer.{
  Checkable,
  Outcome,
  Scratch,
  ScratchOk,
  after,
  bad_scratch,
  compared,
  cut_at,
  differing,
  outcome,
  refused,
  written,
}

scratch_in : (q : Picture) (s : Scratch) → ScratchOk q s → any_of (bad_scratch q s) ≡ false
scratch_in q s ok =
    let y = ok.originals Y in
    let cb = ok.originals Cb in
    let cr = ok.originals Cr in
    let own-y = ok.own Y in
    let own-cb = ok.own Cb in
    let own-cr = ok.own Cr in
    none_in (bad_scratch q s) (search to_test depth 1)

module _ (p : Picture) (lent : Planes) (at : TileAt) (l : Scratch) where
  -- ---- a refusal

  module _ (r : Refusal) (told : Numbered.refused r ≡ verdict p lent) where
    refusing : eqb (verdict p lent).number 0 ≡ false
    refusing =
        let some = refuses r in
        ne_eqb _ _ (λ z. let n : (Numbered.refused r).number ≡ 0 = ap (λ v. v.number) told ∙ z in omega arith)

    pub refusal_is : refused (Numbered.refused r) ≡ outcome p lent at l
    unfolding outcome
    refusal_is = rw refusing (ap refused told)

    pub refusal_leaves : l ≡ after p lent at l
    unfolding after
    refusal_leaves = rw refusing

  -- ---- an accepted picture

  module _ (told : acceptance ≡ verdict p lent) where
    accepting : eqb (verdict p lent).number 0 ≡ true
    accepting = eq-eqb _ _ (ap (λ v. v.number) (sym told))

    pub outcome_is : {o : Outcome} {out : Planes} → out ≡ outputs p lent → o ≡ compared p at l out
        → o ≡ outcome p lent at l
    unfolding outcome
    outcome_is eo e = rw accepting (e ∙ ap (compared p at l) eo)

    pub after_is : {left : Scratch} → left ≡ written p at l → left ≡ after p lent at l
    unfolding after
    after_is e = rw accepting e

  -- term 3: the count is 0
  pub none_differs : Checkable p lent at l → outcome p lent at l ≡ differing 0
  unfolding outcome compared
  none_differs ok =
      let apart = term3.apart p lent at.column at.row ok.tile l.own ok.scratch.own in
      let tile = ok.tile.tile in
      rw (
        ok.tile.accepted,
        lt-leb (length p.columns) at.column tile.column,
        lt-leb (length p.rows) at.row tile.row,
        scratch_in (cut_at p at) l ok.scratch,
      )
      (ap differing apart.none_differs)

-- an accepted picture, with outputs that kept their lengths
pub accepted_still : (p : Picture) (lent : Planes) → acceptance ≡ verdict p lent
    → {out : Planes} → length out.y ≡ length lent.y
    → length out.cb ≡ length lent.cb → length out.cr ≡ length lent.cr
    → Accepted p out
accepted_still p lent told ey eb er =
    let ok = accepted_by p lent (sym told) in
    record {
      picture = ok.picture;
      strengths = ok.strengths;
      outputs_long =
          elim [ Y ↦ ey ∙ ok.outputs_long Y | Cb ↦ eb ∙ ok.outputs_long Cb | Cr ↦ er ∙ ok.outputs_long Cr ];
    }
