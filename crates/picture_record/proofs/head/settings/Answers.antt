-- `settings` meets its contract: each field is what its word ensures.
-- Assumes nothing.
use Prim.Native.Nat.{ℕ}
use mathlib.Core.Path.{ap, ◌∙◌}
use mathlib.Core.Bool.{not}
use lib.Dec.{eqb}
use borrow.Author.Rules.{sfits_of}
use mir.Facts.{to_z-of_z}
use mir.Syntax.{w32}
use Rattle.picture_record.specs.Head.{settings_in}
use Rattle.picture_record.specs.Numbers.{signed_of}
use Rattle.picture_record.proofs.Joined.{signed_bits}
use Rattle.picture_record.proofs.head.settings.Goals as goal

pub returns : goal.returns
unfolding settings_in
returns c =
    let cb_offset =
    to_z-of_z (sfits_of {w = w32} c.cast_signed.type_inv)
    ∙ c.cast_signed.ensures
    ∙ signed_bits _ c.word-7.type_inv
    ∙ ap signed_of c.word-7.ensures in
    let cr_offset =
    to_z-of_z (sfits_of {w = w32} c.cast_signed-2.type_inv)
    ∙ c.cast_signed-2.ensures
    ∙ signed_bits _ c.word-8.type_inv
    ∙ ap signed_of c.word-8.ensures in
    let switch = ap (λ (w : ℕ). not (eqb w 0)) c.word-9.ensures in
    λ i. record {
      width = c.word.ensures i;
      height = c.word-2.ensures i;
      chroma_format = c.word-3.ensures i;
      luma_depth = c.word-4.ensures i;
      chroma_depth = c.word-5.ensures i;
      log2_ctb = c.word-6.ensures i;
      cb_qp_offset = cb_offset i;
      cr_qp_offset = cr_offset i;
      pcm_loop_filter_disabled = switch i;
    }
