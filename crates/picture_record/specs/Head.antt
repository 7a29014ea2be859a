-- The head of a stored record: twenty words. oracle/README.md: "u32 mark 0x53484C54; width, height, chroma format,
-- luma depth, chroma depth, log2 CTB, Cb offset, Cr offset, PCM switch (32 bits each, the offsets signed); u32
-- lengths: Y, Cb, Cr, output Y, output Cb, output Cr (samples), cell bytes, slice bytes, tile columns, tile rows".
use Rattle.std.specs.Prelude.{ℕ, zero, suc, ◌+◌, Bool, true, not, cond, ◌&&◌, List, leb, ltb, eqb}
use Rattle.picture.specs.declared.Settings.{Settings}
use Rattle.picture_record.specs.Numbers.{word_at, signed_of}

abbrev pub marked : List ℕ → Bool
marked head = eqb (word_at head 0) 0x53484C54

unfoldable pub settings_in : List ℕ → Settings
settings_in head = record {
  width = word_at head 1;
  height = word_at head 2;
  chroma_format = word_at head 3;
  luma_depth = word_at head 4;
  chroma_depth = word_at head 5;
  log2_ctb = word_at head 6;
  cb_qp_offset = signed_of (word_at head 7);
  cr_qp_offset = signed_of (word_at head 8);
  pcm_loop_filter_disabled = not (eqb (word_at head 9) 0);
}

-- length k of the ten
abbrev pub length_in : List ℕ → ℕ → ℕ
length_in head k = word_at head (10 + k)

-- the most that a program holds: "40,000 samples to a plane, 20,000 cell bytes, 4,000 slice bytes, 40 tile starts"
abbrev pub limit_of : ℕ → ℕ
limit_of k = cond (ltb k 6) 40000 (cond (eqb k 6) 20000 (cond (eqb k 7) 4000 40))

-- are the first n lengths within their limits?
unfoldable pub within : List ℕ → ℕ → Bool
within head zero = true
within head (suc n) = within head n && leb (length_in head n) (limit_of n)
