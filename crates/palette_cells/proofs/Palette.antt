-- A palette cell keeps its samples, and it is as good as a lossless one.
use mathlib.Core.Path.{◌≡◌, refl, ap, sym, subst, ◌∙◌}
use mathlib.Core.Bool.{Bool, true, false, ◌&&◌, ◌||◌, or-true}
use Rattle.filter.specs.Finished.{restored, finished_plane, finished}
use Rattle.filter.specs.Segment.{Direction, vertical, horizontal, edge_flag, bs_of}
use Rattle.filter.proofs.Alike.{CellsAlike, cells_alike, outputs_alike}
use Rattle.picture.specs.Cell.{bit, cell_at, cell_beneath, suppressed}
use Rattle.picture.specs.declared.Cell.{Cell}
use Rattle.picture.specs.Picture.{Picture}
use Rattle.palette_cells.specs.Palette.{PaletteKept, PaletteAsLossless, turned, turned_from}
use Rattle.palette_cells.proofs.Bits.{turns}
use Rattle.palette_cells.proofs.Turned.{turned_cell, cell_turned}
use Rattle.palette_cells.proofs.Verdict.{answered}

-- ---- the samples that it keeps

palette_suppressed : (pcm : Bool) (c : Cell) → bit c.flags 4 ≡ true → suppressed pcm c ≡ true
unfolding suppressed
palette_suppressed pcm c e = rw e (or-true (bit c.flags 2 || (bit c.flags 3 && pcm)))

pub palette_kept : PaletteKept
unfolding finished_plane restored
palette_kept p c x y e =
    rw (palette_suppressed p.settings.pcm_loop_filter_disabled (cell_beneath p c x y) e) refl

-- ---- a turned cell, which the filter does not tell apart

edge_same : (d : Direction) (q : Cell) → edge_flag d (turned_cell q) ≡ edge_flag d q
edge_same vertical q = (turns q.flags).zeroth
edge_same horizontal q = (turns q.flags).first

bs_same : (d : Direction) (q : Cell) → bs_of d q ≡ bs_of d (turned_cell q)
bs_same vertical q = refl
bs_same horizontal q = refl

-- a mark more before the others or after them
or_same : (two m four : Bool) → ((two || four) || m || false) ≡ (two || m || four)
or_same true m four = refl
or_same false true true = refl
or_same false true false = refl
or_same false false true = refl
or_same false false false = refl

mark_same : (pcm : Bool) (c : Cell) → suppressed pcm (turned_cell c) ≡ suppressed pcm c
unfolding suppressed
mark_same pcm c =
    let t = turns c.flags in
    rw (t.second, t.third, t.fourth) (or_same (bit c.flags 2) (bit c.flags 3 && pcm) (bit c.flags 4))

turned_same : (c : Cell) → CellsAlike c (turned_cell c)
turned_same c = record {
  qp = refl;
  slice = refl;
  edge = λ d. sym (edge_same d c);
  strength = λ d _. bs_same d c;
  suppressed_same = λ pcm. sym (mark_same pcm c);
}

-- ---- the turned picture

finished_same : (p : Picture) → finished p ≡ finished (turned p)
finished_same p =
    cells_alike p (turned_from 0 p.cells)
    (λ n. subst (CellsAlike (cell_at p.cells n)) (sym (cell_turned p.cells n)) (turned_same (cell_at p.cells n)))

pub palette_as_lossless : PaletteAsLossless
palette_as_lossless = record {
  none_left = λ p n.
      ap (λ (c : Cell). bit c.flags 4) (cell_turned p.cells n) ∙ (turns (cell_at p.cells n).flags).fourth;
  same_verdict = answered;
  same_outputs = λ p lent. outputs_alike p (turned p) lent (answered p lent) (λ _. finished_same p);
}
