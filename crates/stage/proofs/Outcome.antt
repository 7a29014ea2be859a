-- The three planes together, and what the stage leaves on each verdict.
use Prim.Native.Nat.{ℕ, ◌*◌}
use mathlib.Core.Path.{◌≡◌, sym, ap, ◌∙◌}
use mathlib.Core.Bool.{Bool, cond}
use mathlib.Core.List.{List}
use native.Mathlib.Omega.{arith}
use borrow.Author.Tests.{eq-eqb, ne_eqb}
use lib.ListN.{length}
use Rattle.filter.specs.declared.Component as Code
use Rattle.filter.specs.Finished.{finished_plane, finished, outputs}
use Rattle.picture.specs.Given.{planes_of}
use Rattle.ledger.specs.declared.Refusal.{Refusal}
use Rattle.ledger.specs.Numbered.{refused}
use Rattle.ledger.proofs.Refusals.{refuses}
use Rattle.picture.specs.Causes.{verdict}
use Rattle.picture.specs.Ledger.{acceptance}
use Rattle.picture.specs.Picture.{Picture, Planes, plane_of, plane_width, plane_height}
use Rattle.picture.specs.Plane.{Plane, table}
use Rattle.picture.specs.Scale.{Component, Y, Cb, Cr, chroma_across, chroma_down, from_luma}
use Rattle.planes.proofs.Tables.{holds_table}
use Rattle.segments.specs.declared.Frame.{Frame}
use Rattle.segments.specs.Pictures.{component_for, OffsetIs, frame_for}
use Rattle.stage.specs.Plane.{finished_for}
use Rattle.stage.proofs.Finished.{finished_is}

module _ (p : Picture) where
  -- a plane by the struct and the frame that the code worked out
  pub plane_finished : (o : ℕ) (c : Component) → OffsetIs p.settings o c → {pcm : Bool}
      → pcm ≡ p.settings.pcm_loop_filter_disabled → {k : Code.Component} → k ≡ component_for p.settings o c
      → {f : Frame} → f ≡ frame_for p c → (l : List ℕ)
      → l ≡ table f.columns f.rows
      (finished_for k f pcm (plane_of p.originals c) p.cells p.slices p.columns p.rows)
      → l ≡ table (plane_width p c) (plane_height p c) (finished_plane p c)
  plane_finished o c i ep {k} ek {f} ef l e =
      e
      ∙ ap (λ (b : Bool). table f.columns f.rows (finished_by_lem k f b)) ep
      ∙ ap (λ (a : Code.Component). table f.columns f.rows
      (finished_by_lem a f p.settings.pcm_loop_filter_disabled)) ek
      ∙ ap
      (λ (a : Frame). table a.columns a.rows
      (finished_by_lem (component_for p.settings o c) a p.settings.pcm_loop_filter_disabled))
      ef
      ∙ ap (table (plane_width p c) (plane_height p c)) (finished_is p o c i)
    where
      finished_by_lem : Code.Component → Frame → Bool → Plane
      finished_by_lem k f pcm =
          finished_for k f pcm (plane_of p.originals c) p.cells p.slices p.columns p.rows

  pub planes_finished : (y cb cr : List ℕ)
      → y ≡ table (plane_width p Y) (plane_height p Y) (finished_plane p Y)
      → cb ≡ table (plane_width p Cb) (plane_height p Cb) (finished_plane p Cb)
      → cr ≡ table (plane_width p Cr) (plane_height p Cr) (finished_plane p Cr)
      → planes_of y cb cr ≡ finished p
  unfolding finished
  planes_finished y cb cr ey eb er = λ i. record { y = ey i; cb = eb i; cr = er i }

-- format 0 has empty chroma planes, which are finished as they are
pub absent_plane : (format w h : ℕ) (l : List ℕ) (G : Plane) → format ≡ 0
    → length l ≡ from_luma (chroma_across format) w * from_luma (chroma_down format) h
    → l ≡ table (from_luma (chroma_across format) w) (from_luma (chroma_down format) h) G
absent_plane format w h l G e len =
    let none : from_luma (chroma_across format) w ≡ 0 = simp (eq-eqb format 0 e) in
    holds_table _ _ l G len (λ x y hx hy. absurd (omega arith))

-- ---- what the stage leaves

pub left_finished : (p : Picture) (o : Planes) → verdict p o ≡ acceptance → (l : Planes) → l ≡ finished p
    → l ≡ outputs p o
unfolding outputs
left_finished p o accepted l is =
    is ∙ ap (λ (t : Bool). cond t (finished p) o) (sym (eq-eqb _ _ (ap (λ v. v.number) accepted)))

pub left_as_it_was : (p : Picture) (o : Planes) (r : Refusal) → refused r ≡ verdict p o → o ≡ outputs p o
unfolding outputs
left_as_it_was p o r e =
    let h = refuses r in
    let some : (verdict p o).number ≡ 0 → ⊥ =
    λ z. let n : (refused r).number ≡ 0 = ap (λ v. v.number) e ∙ z in omega arith in
    ap (λ (t : Bool). cond t (finished p) o) (sym (ne_eqb _ _ some))
