-- What C passes and gets: the settings one by one, as the struct that holds them, and the answer as numbers.
use Rattle.std.specs.Prelude.{ℕ, ◌≡◌, Bool, false, ℤ, pos}
use Rattle.filter.specs.Finished.{outputs}
use Rattle.picture.specs.declared.Settings as Code
use Rattle.picture.specs.Causes.{verdict}
use Rattle.picture.specs.Picture.{Picture, Planes}

abbrev pub passed : ℕ → ℕ → ℕ → ℕ → ℕ → ℕ → ℤ → ℤ → Bool → Code.Settings
passed width height format luma_depth chroma_depth log2_ctb cb_offset cr_offset switch = record {
  width = width;
  height = height;
  chroma_format = format;
  luma_depth = luma_depth;
  chroma_depth = chroma_depth;
  log2_ctb = log2_ctb;
  cb_qp_offset = cb_offset;
  cr_qp_offset = cr_offset;
  pcm_loop_filter_disabled = switch;
}

-- with planes alone; the others play no part (`planes_alone`, checksum/proofs/Known and recogniser/proofs/Known)
abbrev pub passed_planes : ℕ → ℕ → ℕ → ℕ → ℕ → Code.Settings
passed_planes width height format luma_depth chroma_depth =
    passed width height format luma_depth chroma_depth 0 (pos 0) (pos 0) false

-- the ledger's number and place for a picture and the planes that are lent, and what is left in those
pub record Deblocked (p : Picture) (lent : Planes) (number place : ℕ) (left : Planes) : Type 0 where
  pub number_is : number ≡ (verdict p lent).number
  pub place_is : place ≡ (verdict p lent).place
  pub left_is : left ≡ outputs p lent
