-- Which segments are open, and their thresholds. Document 01, 'Gate', 'Luma' and 'Chroma'; clauses 8.7.2.1, 8.7.2.5.3
-- and 8.7.2.5.5.
use Rattle.std.specs.Prelude.{ℕ, ◌+◌, ◌-◌, Bool, cond, not, ◌&&◌, ◌||◌, List, leb, ltb, eqb, ℤ, pos}
use Rattle.std.proofs.Math.Option.{Option, none, some}
use Rattle.ints.specs.Int.{◌⊖◌}
use Rattle.ints.specs.Sample.{largest_at}
use Rattle.filter.specs.Kernel.{Filter, luma, chroma, tc_of}
use Rattle.picture.specs.declared.Cell.{Cell}
use Rattle.picture.specs.declared.Slice.{Slice}
use Rattle.picture.specs.Cell.{bit, cell_of_sample, qp_of}
use Rattle.picture.specs.Picture.{Picture, Settings}
use Rattle.picture.specs.Scale.{Component, Y, Cb, Cr, sampling_across, sampling_down, to_luma}
use Rattle.picture.specs.Slice.{slice_at}
use Rattle.picture.specs.Tile.{same_tile}
use Rattle.thresholds.specs.Chroma.{chroma_tc}
use Rattle.thresholds.specs.Luma.{average_qp, luma_beta, luma_tc}

-- the direction of an edge
pub data Direction : Type 0 where
  vertical horizontal : Direction

-- flag bit 0 "vertical edge on the left side, bit 1 horizontal edge on the top side"
abbrev pub edge_flag : Direction → Cell → Bool
edge_flag vertical q = bit q.flags 0
edge_flag horizontal q = bit q.flags 1

abbrev pub bs_of : Direction → Cell → ℕ
bs_of vertical q = q.bsv
bs_of horizontal q = q.bsh

-- "its bS is at least 1 (chroma: 2)"
abbrev pub least_bs : Component → ℕ
least_bs Y = 1
least_bs Cb = 2
least_bs Cr = 2

-- "either Q's slice filters across or both have one slice number. Q's slice must not be disabled."
unfoldable pub slices_open : Cell → Cell → Slice → Bool
slices_open p q slice_q = (slice_q.across || eqb p.slice q.slice) && not slice_q.disabled

-- 'Gate': "A segment is open when the Q cell's edge flag is set, its bS is at least 1 (chroma: 2), P and Q lie in one
-- tile", and the slices allow it
unfoldable pub gate : Component → Direction → Cell → Cell → Slice → Bool → Bool
gate c d p q slice_q one_tile = edge_flag d q && (leb (least_bs c) (bs_of d q) && (one_tile && slices_open p q slice_q))

-- a luma segment's thresholds, by the offsets of Q's slice
unfoldable pub luma_filter : ℕ → Cell → Cell → Slice → ℕ → Filter
luma_filter depth p q slice_q bS =
    let qPL : ℤ = average_qp (qp_of p) (qp_of q) in
    luma (luma_beta depth qPL (slice_q.beta ⊖ 6)) (luma_tc depth qPL (pos bS) (slice_q.tc ⊖ 6)) (largest_at depth)

-- a chroma segment's threshold, by the component's own offset
unfoldable pub chroma_filter : ℕ → ℕ → ℤ → Cell → Cell → Slice → Filter
chroma_filter format depth offset p q slice_q =
    chroma (chroma_tc format depth (average_qp (qp_of p) (qp_of q)) offset (slice_q.tc ⊖ 6)) (largest_at depth)

abbrev pub filter_of : Settings → Component → Cell → Cell → Slice → ℕ → Filter
filter_of t Y p q slice_q bS = luma_filter t.luma_depth p q slice_q bS
filter_of t Cb p q slice_q bS = chroma_filter t.format t.chroma_depth t.cb_offset p q slice_q
filter_of t Cr p q slice_q bS = chroma_filter t.format t.chroma_depth t.cr_offset p q slice_q

-- how the segment between the cells P and Q is filtered: none where the gate is closed or tC is 0 ("tc 0 leaves the
-- segment alone")
unfoldable pub between : Settings → List ℕ → Component → Direction → Cell → Cell → Bool → Option Filter
between t slices c d p q one_tile =
    let slice_q : Slice = slice_at slices q.slice in
    let filter : Filter = filter_of t c p q slice_q (bs_of d q) in
    cond (gate c d p q slice_q one_tile && ltb 0 (tc_of filter)) (some filter) none

-- a luma position
pub record Position : Type 0 where
  pub x : ℕ
  pub y : ℕ

-- the position of Q of the segment at edge e whose first line is l: "The Q cell is that of the segment's second
-- sample; chroma positions are scaled to luma by the format."
abbrev pub position_q : Settings → Component → Direction → ℕ → ℕ → Position
position_q t c vertical e l = record {
  x = to_luma (sampling_across t.format c) e;
  y = to_luma (sampling_down t.format c) (l + 1);
}
position_q t c horizontal e l = record {
  x = to_luma (sampling_across t.format c) (l + 1);
  y = to_luma (sampling_down t.format c) e;
}

-- P is the luma sample before Q's, across the edge
abbrev pub position_p : Direction → Position → Position
position_p vertical q = record { x = q.x - 1; y = q.y }
position_p horizontal q = record { x = q.x; y = q.y - 1 }

-- between the cells of two luma positions
unfoldable pub segment_at : Picture → Component → Direction → Position → Position → Option Filter
segment_at p c d a b =
    between p.settings p.slices c d (cell_of_sample p a.x a.y) (cell_of_sample p b.x b.y)
    (same_tile p a.x a.y b.x b.y)

-- how the segment of a component at edge e and first line l is filtered, or none
abbrev pub segment : Picture → Component → Direction → ℕ → ℕ → Option Filter
segment p c d e l =
    segment_at p c d (position_p d (position_q p.settings c d e l)) (position_q p.settings c d e l)
