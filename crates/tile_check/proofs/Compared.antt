-- A tile of an accepted picture: what the code needs of it, and that what the code compares is the tile and its cut.
use Prim.Native.Nat.{ℕ, ◌*◌, ◌≤◌}
use mathlib.Core.Path.{◌≡◌, refl, sym, ap, ◌∙◌}
use mathlib.Core.Bool.{Bool, true, false, cond}
use mathlib.Core.List.{List}
use native.Mathlib.Omega.{arith}
use borrow.Author.Tests.{leb-false, le-ltb}
use lib.ListN.{length}
use Rattle.std.specs.Prelude.{Option, Some, None}
use Rattle.picture.proofs.Scale.{from_luma_most}
use Rattle.filter.specs.Count.{differences}
use Rattle.filter.specs.Finished.{outputs}
use Rattle.picture.specs.declared.Settings as Code
use Rattle.picture.specs.Accepted.{Accepted, PlanesOk}
use Rattle.picture.specs.Cut.{IsTile, cut, tile_part}
use Rattle.picture.specs.Given.{bare}
use Rattle.picture.specs.Ledger.{any_of}
use Rattle.picture.specs.Picture.{Picture, Planes, plane_height, plane_width}
use Rattle.picture.specs.Plane.{Part}
use Rattle.picture.specs.Scale.{Component, Y, Cb, Cr, cell_of, sampling_across, sampling_down}
use Rattle.picture.proofs.Ledger.{none_out, not_eq}
use Rattle.tile_parts.specs.declared.TileAt.{TileAt}
use Rattle.tile_parts.specs.Cuts.{CutReady, Rooms, Sized}
use Rattle.tile_parts.specs.Parts.{Room, bytes_part}
use Rattle.tile_parts.specs.Tiles.{no_tile_at, part_at, tiled}
use Rattle.tiles_apart.proofs.Parts.{Inside}
use Rattle.tiles_apart.proofs.Tile.{cells_inside, cells_rows, columns_span, part_inside, rows_span}
use Rattle.tile_check.specs.Alone.{CompareReady, alone, differing_alone, filtered_alone}
use Rattle.tile_check.specs.Answer.{
  Outcome,
  Scratch,
  ScratchOk,
  bad_scratch,
  compared,
  cut_at,
  differing,
  lengths,
  no_tile,
  scratch,
  written,
}

-- a picture's sizes and settings as the code holds them
abbrev pub code_of : Picture → Code.Settings
code_of p =
    let t = p.settings in
    record {
      width = p.width;
      height = p.height;
      chroma_format = t.format;
      luma_depth = t.luma_depth;
      chroma_depth = t.chroma_depth;
      log2_ctb = t.log2_ctb;
      cb_qp_offset = t.cb_offset;
      cr_qp_offset = t.cr_offset;
      pcm_loop_filter_disabled = t.pcm_loop_filter_disabled;
    }

scratch_out : (q : Picture) (s : Scratch) → any_of (bad_scratch q s) ≡ false → ScratchOk q s
scratch_out q s e =
    let (y, (cb, (cr, (oy, (ob, (or, (cells, _))))))) = none_out (bad_scratch q s) e in
    record {
      originals = elim [ Y ↦ not_eq _ _ y | Cb ↦ not_eq _ _ cb | Cr ↦ not_eq _ _ cr ];
      own = elim [ Y ↦ not_eq _ _ oy | Cb ↦ not_eq _ _ ob | Cr ↦ not_eq _ _ or ];
      cells = not_eq _ _ cells;
    }

module _ (p : Picture) (at : TileAt) where
  abbrev luma : Part
  luma = tile_part p at.column at.row Y

  -- what is answered, and what the lists hold after it
  abbrev Answered : Outcome → Scratch → Scratch → Planes → Type 0
  Answered o l left out = (o ≡ compared p at l out) × (left ≡ written p at l)

  -- ---- whether the tile is there

  -- the tile's part, where it is there
  abbrev part_there : Option Part
  part_there = part_at (tiled (code_of p) p.columns p.rows) at

  part_is : {lent : Planes} → Accepted p lent → part_there ≡ cond (any_of (no_tile_at p at)) None (Some luma)
  unfolding part_at
  part_is ok = rw (le-ltb 6 p.settings.log2_ctb ok.picture.settings.ctb_high)

  none_is : (t : Bool) → None ≡ cond t None (Some luma) → t ≡ true
  none_is true e = refl
  none_is false e = absurd (cc)

  some_is : (t : Bool) {part : Part} → Some part ≡ cond t None (Some luma) → (t ≡ false) × (part ≡ luma)
  some_is true e = absurd (cc)
  some_is false e = (refl, cc)

  pub no_tile_lem : {lent : Planes} → Accepted p lent → None ≡ part_there → (l : Scratch) (out : Planes)
      → Answered no_tile l l out
  unfolding compared written
  no_tile_lem ok e l out =
      let none : any_of (no_tile_at p at) ≡ true = none_is _ (e ∙ part_is ok) in (rw none, rw none)

  module _ {lent : Planes} (ok : Accepted p lent) {part : Part} (there : Some part ≡ part_there) where
    some : any_of (no_tile_at p at) ≡ false
    some = (some_is _ (there ∙ part_is ok)).0

    e : part ≡ luma
    e = (some_is _ (there ∙ part_is ok)).1

    tile : IsTile p at.column at.row
    tile =
        let (column, (row, _)) = none_out (no_tile_at p at) some in
        record { column = leb-false _ _ column; row = leb-false _ _ row }

    -- ---- where the tile lies

    luma_small : (luma.width ≤ 8192) × (luma.height ≤ 8192)
    luma_small =
        let X = columns_span ok.picture tile in
        let Z = rows_span ok.picture tile in
        (omega (arith, X.fits, ok.picture.width.most), omega (arith, Z.fits, ok.picture.height.most))

    plane_room : (c : Component) (l : List ℕ) → length l ≡ plane_width p c * plane_height p c
        → Room (tile_part p at.column at.row c) (plane_width p c) l
    plane_room c l long =
        let inside : Inside (tile_part p at.column at.row c) (plane_width p c) (plane_height p c) =
        part_inside ok.picture tile c in
        record {
          rows = plane_height p c;
          long = long;
          columns = inside.columns;
          down = inside.rows;
          wide =
              omega
              (arith, from_luma_most (sampling_across p.settings.format c) ok.picture.width.most);
          high =
              omega
              (arith, from_luma_most (sampling_down p.settings.format c) ok.picture.height.most);
        }

    rooms : (l : Planes) → PlanesOk p l → Rooms (code_of p) luma l
    rooms l long = record {
      y = plane_room Y l.y (long Y);
      cb = plane_room Cb l.cb (long Cb);
      cr = plane_room Cr l.cr (long Cr);
    }

    sized : (l : Planes) → PlanesOk (cut_at p at) l → Sized (code_of p) luma l
    unfolding cut
    sized l long = record { y = long Y; cb = long Cb; cr = long Cr }

    cells_room : Room (bytes_part luma) (8 * cell_of p.width) p.cells
    cells_room =
        let inside = cells_inside ok.picture tile in
        record {
          rows = cell_of p.height;
          long = cells_rows ok.picture tile;
          columns = inside.columns;
          down = inside.rows;
          wide = omega (arith, ok.picture.width.most);
          high = omega (arith, ok.picture.height.most);
        }

    cut_ready : (l : Scratch) → ScratchOk (cut_at p at) l
        → CutReady (code_of p) luma p.originals p.cells l.originals l.cells
    unfolding cut
    cut_ready l fit = record {
      planes_in = rooms p.originals ok.picture.originals;
      cells_in = cells_room;
      planes_own = sized l.originals fit.originals;
      cells_own = omega (arith, fit.cells);
    }

    ready : (l : Scratch) → ScratchOk (cut_at p at) l
        → CompareReady (code_of p) luma p.originals p.cells lent l
    ready l fit = record {
      wide = luma_small.0;
      high = luma_small.1;
      ready = cut_ready l fit;
      outputs_in = rooms lent ok.outputs_long;
      outputs_own = sized l.own fit.own;
    }

    -- ---- by the part and the cut's settings that the code worked out

    pub part_small : (part.width ≤ 8192) × (part.height ≤ 8192)
    part_small = rw e luma_small

    module _ {own : Code.Settings} (eo : own ≡ alone (code_of p) part) where
      pub own_small : (own.width ≤ 8192) × (own.height ≤ 8192)
      own_small = rw eo part_small

      module _ (l : Scratch) {bad : Bool} (tested : bad ≡ any_of (bad_scratch (bare own) l)) where
        bad_is : bad ≡ any_of (bad_scratch (cut_at p at) l)
        unfolding cut
        bad_is =
            tested
            ∙ ap (λ (o : Code.Settings). any_of (bad_scratch (bare o) l)) (eo ∙ ap (alone (code_of p)) e)

        pub compare_ready : bad ≡ false → CompareReady (code_of p) part p.originals p.cells lent l
        compare_ready good = rw e (ready l (scratch_out (cut_at p at) l (sym bad_is ∙ good)))

        pub bad_lengths_lem : bad ≡ true → (out : Planes) → Answered lengths l l out
        unfolding compared written
        bad_lengths_lem short out = let long = sym bad_is ∙ short in (rw (some, long), rw (some, long))

        count_part : (out : Planes)
            → differing_alone (code_of p) part p.originals p.cells p.slices l.own out
            ≡ differences p at.column at.row (outputs (cut_at p at) l.own) out
        unfolding cut differences
        count_part out =
            ap
            (λ (q : Part). differing_alone (code_of p) q p.originals p.cells p.slices l.own out) e

        filtered_part : filtered_alone (code_of p) part p.originals p.cells p.slices l.own
            ≡ scratch (cut_at p at).originals (cut_at p at).cells (outputs (cut_at p at) l.own)
        unfolding cut
        filtered_part =
            ap (λ (q : Part). filtered_alone (code_of p) q p.originals p.cells p.slices l.own) e

        pub count_is : bad ≡ false → (out : Planes) {r : ℕ}
            → r ≡ differing_alone (code_of p) part p.originals p.cells p.slices l.own out
            → {left : Scratch}
            → left ≡ filtered_alone (code_of p) part p.originals p.cells p.slices l.own
            → Answered (differing r) l left out
        unfolding compared written
        count_is good out er el =
            let long = sym bad_is ∙ good in
            (rw (some, long) (ap differing (er ∙ count_part out)), rw (some, long) (el ∙ filtered_part))
