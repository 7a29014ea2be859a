-- What the checks leave of a cell's and of a slice's record, by the fields of the structs.
use Prim.Native.Nat.{ℕ, ◌+◌, ◌≤◌, ◌<◌}
use Rattle.ints.proofs.Bounds.{most_out}
use Rattle.picture.specs.Accepted.{PictureOk}
use Rattle.picture.specs.Cell.{cell_at, cell_count}
use Rattle.picture.specs.Picture.{Picture}
use Rattle.picture.specs.Slice.{slice_at, slice_count}

module _ (p : Picture) (ok : PictureOk p) where
  pub cell_slice : (n : ℕ) → n < cell_count p → (cell_at p.cells n).slice < slice_count p.slices
  unfolding cell_at
  cell_slice n h = (ok.cells n h).slice

  pub cell_qp : (n : ℕ) → n < cell_count p → (cell_at p.cells n).qp ≤ 64 + 51
  unfolding cell_at
  cell_qp n h = most_out 51 _ 64 (ok.cells n h).qp_high

  pub cell_bsv : (n : ℕ) → n < cell_count p → (cell_at p.cells n).bsv ≤ 2
  unfolding cell_at
  cell_bsv n h = (ok.cells n h).bsv

  pub cell_bsh : (n : ℕ) → n < cell_count p → (cell_at p.cells n).bsh ≤ 2
  unfolding cell_at
  cell_bsh n h = (ok.cells n h).bsh

  pub slice_tc : (n : ℕ) → n < slice_count p.slices → (slice_at p.slices n).tc ≤ 12
  unfolding slice_at
  slice_tc n h = (ok.slices.records n h).tc
