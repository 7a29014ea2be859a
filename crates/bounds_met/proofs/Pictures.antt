-- The bounds of a picture are met: at each depth by a picture that is computed by the definitions, in which of each
-- component one sample ends as far up as the bound allows and the one beside it as far down.
use Prim.Native.Nat.{ℕ, zero, suc, ◌+◌, ◌*◌, ◌-◌, ◌^◌, ◌<◌}
use mathlib.Core.Path.{◌≡◌, refl, subst}
use mathlib.Core.Bool.{Bool, true, false, cond, ◌&&◌}
use mathlib.Core.List.{List, [], ◌∷◌, ◌++◌}
use native.Mathlib.Omega.{arith}
use borrow.Author.Tests.{eqb-true}
use lib.Dec.{eqb, ltb}
use lib.IntN.{pos}
use lib.ListN.{get_or, replicate}
use Rattle.bounded_moves.specs.Pictures.{output, bound}
use Rattle.filter.specs.Finished.{pass_of, restored, finished_plane}
use Rattle.filter.specs.Kernel.{kernel}
use Rattle.filter.specs.Pass.{window, pass}
use Rattle.filter.specs.Segment.{slices_open, gate, luma_filter, chroma_filter, between, segment_at}
use Rattle.filter.proofs.Outputs.{outputs_finished, finished_at}
use Rattle.ints.specs.Int.{◌⊖◌, ◌⊞◌, ◌⊟◌, neg, ◌⊠◌, lt, ◌>>◌, clip3, abs, nat_of}
use Rattle.lines.specs.Chroma.{chroma_delta, chroma_line}
use Rattle.lines.specs.Decision.{activity, d_sam, decision}
use Rattle.lines.specs.Luma.{clip1, near, strong_line, delta0, side_delta, second, weak_by, weak_line, luma_line}
use Rattle.picture.specs.Cell.{cell_at, suppressed}
use Rattle.picture.specs.Causes.{verdict}
use Rattle.picture.specs.Ledger.{Verdict, acceptance}
use Rattle.picture.specs.Picture.{Picture, Planes, plane_width, plane_height, depth_of, original}
use Rattle.picture.specs.Plane.{at, table}
use Rattle.picture.specs.Scale.{Component, Y, Cb, Cr}
use Rattle.picture.specs.Slice.{slice_at}
use Rattle.picture.specs.Tile.{same_tile}
use Rattle.thresholds.specs.Chroma.{table_qpc, chroma_qp, chroma_tc}
use Rattle.thresholds.specs.Luma.{average_qp, beta_index, tc_index, scaled, luma_beta, luma_tc}
use Rattle.thresholds.specs.Tables.{BETA, TC, QPC}
use Rattle.thresholds.proofs.Rows.{each, passes}
use Rattle.bounds_met.specs.Pictures.{Reached, AllReached}

abbrev repeated : ℕ → List ℕ → List ℕ
repeated zero l = []
repeated (suc n) l = l ++ repeated n l

-- QP 51; in the lower half both edges with bS 2, in the upper half none
abbrev upper : List ℕ
upper = 115 ∷ 0 ∷ 0 ∷ 0 ∷ 0 ∷ 0 ∷ 0 ∷ 0 ∷ []

abbrev lower : List ℕ
lower = 115 ∷ 3 ∷ 2 ∷ 2 ∷ 0 ∷ 0 ∷ 0 ∷ 0 ∷ []

-- Columns 4 to 11 of the rows around the crossing, at depth 8. Rows 8 and 11 decide on the vertical edge: evenly sloped
-- on either side, they are as good as flat. Row 10 has the two samples, 0 and 192. The first pass takes them to 48 and
-- 144, and columns 7 and 8 to 121 85 48 121 and 70 105 144 70, evenly sloped again; the second takes both to 96.
abbrev row_at : ℕ → List ℕ
row_at y =
    cond (eqb y 9) (100 ∷ 60 ∷ 20 ∷ 100 ∷ 100 ∷ 180 ∷ 60 ∷ 60 ∷ [])
    (cond (eqb y 10) (100 ∷ 30 ∷ 0 ∷ 0 ∷ 192 ∷ 180 ∷ 20 ∷ 60 ∷ [])
    (cond (ltb y 8) (100 ∷ 180 ∷ 180 ∷ 180 ∷ 20 ∷ 20 ∷ 20 ∷ 20 ∷ [])
    (100 ∷ 255 ∷ 180 ∷ 100 ∷ 60 ∷ 30 ∷ 0 ∷ 60 ∷ [])))

abbrev luma_at : ℕ → ℕ → ℕ → ℕ
luma_at scale x y = scale * cond (ltb 3 x && ltb x 12) (get_or (row_at y) (x - 4) 0) 100

-- Row 8 is the first below the edge: its 0 and 96 become 24 and 72, and then 48, as the rows above are 200 and 0.
abbrev chroma_at : ℕ → ℕ → ℕ → ℕ
chroma_at scale x y =
    scale * cond (eqb y 8 && eqb x 7) 0 (cond (eqb y 8 && eqb x 8) 96 (cond (ltb x 8) 200 0))

-- 16 by 16 in 4:4:4, offsets 0
abbrev picture : ℕ → Picture
picture depth = record {
  width = 16;
  height = 16;
  settings = record {
    format = 3;
    luma_depth = depth;
    chroma_depth = depth;
    log2_ctb = 4;
    cb_offset = pos 0;
    cr_offset = pos 0;
    pcm_loop_filter_disabled = false;
  };
  originals = record {
    y = table 16 16 (luma_at (2 ^ (depth - 8)));
    cb = table 16 16 (chroma_at (2 ^ (depth - 8)));
    cr = table 16 16 (chroma_at (2 ^ (depth - 8)));
  };
  cells = repeated 8 upper ++ repeated 8 lower;
  slices = 0 ∷ 6 ∷ 6 ∷ 1 ∷ [];
  columns = 0 ∷ [];
  rows = 0 ∷ [];
}

abbrev lent : Planes
lent = record { y = replicate 256 7; cb = replicate 256 7; cr = replicate 256 7 }

-- the samples in columns 7 and 8 of this row
abbrev row : Component → ℕ
row Y = 10
row Cb = 8
row Cr = 8

-- ---- one test, which every depth passes by computation

abbrev is_accepted : Verdict → Bool
is_accepted v = eqb v.number 0 && eqb v.place 0

abbrev ends : ℕ → Component → ℕ → Bool
ends depth c x = eqb (finished_plane (picture depth) c x (row c)) (bound (picture depth).settings c)

-- the original of the first is 0, that of the second twice the bound, and both end at the bound
abbrev goes : ℕ → Component → Bool
goes depth c =
    eqb (original (picture depth) c 7 (row c)) 0
    && (eqb (original (picture depth) c 8 (row c)) (2 * bound (picture depth).settings c)
    && (ends depth c 7 && ends depth c 8))

abbrev reached : ℕ → Bool
reached depth = is_accepted (verdict (picture depth) lent) && (goes depth Y && (goes depth Cb && goes depth Cr))

each_reached : each (λ k _. reached (8 + k)) 0 (replicate 9 0) ≡ true
unfolding verdict ◌⊖◌ ◌⊞◌ ◌⊟◌ neg ◌⊠◌ lt ◌>>◌ clip3 abs nat_of pass_of restored finished_plane kernel window pass
    slices_open gate luma_filter chroma_filter between segment_at activity d_sam decision clip1 near strong_line
    delta0 side_delta second weak_by weak_line luma_line chroma_delta chroma_line cell_at suppressed at table slice_at
    same_tile average_qp beta_index tc_index scaled luma_beta luma_tc table_qpc chroma_qp chroma_tc BETA TC QPC
each_reached = refl

-- ---- what the test says, depth by depth and component by component

both : (a b : Bool) → (a && b) ≡ true → (a ≡ true) × (b ≡ true)
both true b e = (refl, e)
both false b e = absurd (let z : ◌≡◌ {A = ℕ} 0 1 = cc in omega arith)

record Goes (depth : ℕ) (c : Component) : Type 0 where
  low : original (picture depth) c 7 (row c) ≡ 0
  high : original (picture depth) c 8 (row c) ≡ 2 * bound (picture depth).settings c
  up : finished_plane (picture depth) c 7 (row c) ≡ bound (picture depth).settings c
  down : finished_plane (picture depth) c 8 (row c) ≡ bound (picture depth).settings c

of_test : (depth : ℕ) (c : Component) → goes depth c ≡ true → Goes depth c
of_test depth c e =
    let low : Bool = eqb (original (picture depth) c 7 (row c)) 0 in
    let high : Bool =
    eqb (original (picture depth) c 8 (row c)) (2 * bound (picture depth).settings c) in
    let up : Bool = ends depth c 7 in
    let down : Bool = ends depth c 8 in
    let rest = both low (high && (up && down)) e in
    let more = both high (up && down) rest.1 in
    let last = both up down more.1 in
    record {
      low = eqb-true _ _ rest.0;
      high = eqb-true _ _ more.0;
      up = eqb-true _ _ last.0;
      down = eqb-true _ _ last.1;
    }

verdict_is : (v : Verdict) → is_accepted v ≡ true → v ≡ acceptance
verdict_is v e =
    let a = both (eqb v.number 0) (eqb v.place 0) e in
    λ i. record { number = eqb-true v.number 0 a.0 i; place = eqb-true v.place 0 a.1 i }

module _ (depth : ℕ) (e : reached depth ≡ true) where
  parts : (is_accepted (verdict (picture depth) lent) ≡ true)
      × ((goes depth Y ≡ true) × ((goes depth Cb ≡ true) × (goes depth Cr ≡ true)))
  parts =
      let a = both (is_accepted (verdict (picture depth) lent)) (goes depth Y && (goes depth Cb && goes depth Cr)) e in
      let b = both (goes depth Y) (goes depth Cb && goes depth Cr) a.1 in
      (a.0, (b.0, both (goes depth Cb) (goes depth Cr) b.1))

  accepted : verdict (picture depth) lent ≡ acceptance
  accepted = verdict_is (verdict (picture depth) lent) parts.0

  known : (c : Component) → Goes depth c
  known Y = of_test depth Y parts.1.0
  known Cb = of_test depth Cb parts.1.1.0
  known Cr = of_test depth Cr parts.1.1.1

  -- the picture's columns, rows and depth
  inside : (c : Component)
      → (8 < plane_width (picture depth) c) × (row c < plane_height (picture depth) c)
      × (depth_of (picture depth).settings c ≡ depth)
  inside Y = (omega arith, omega arith, refl)
  inside Cb = (omega arith, omega arith, refl)
  inside Cr = (omega arith, omega arith, refl)

  leaves : (c : Component) (x : ℕ) → x < plane_width (picture depth) c
      → output (picture depth) lent c x (row c) ≡ finished_plane (picture depth) c x (row c)
  leaves c x h =
      rw (outputs_finished (picture depth) lent accepted) (finished_at (picture depth) c x (row c) h (inside c).1)

  reached_at : (c : Component) → Reached c depth
  reached_at c =
      let k : Goes depth c = known c in
      let here = inside c in
      let first = leaves c 7 (omega (arith, here.0)) in
      let second = leaves c 8 here.0 in
      record {
        picture = picture depth;
        lent = lent;
        depth_is = here.2;
        x = 7;
        y = row c;
        sample = record { accepted = accepted; column = omega (arith, here.0); row = here.1 };
        beside = record { accepted = accepted; column = here.0; row = here.1 };
        up = omega (arith, first, k.low, k.up);
        down = omega (arith, second, k.high, k.down);
        met = omega (arith, first, second, k.up, k.down);
      }

pub all_reached : AllReached
all_reached c depth low high =
    let e : 8 + (depth - 8) ≡ depth = omega arith in
    let passed = passes (λ k _. reached (8 + k)) (replicate 9 0) each_reached (depth - 8) (omega arith) in
    subst (Reached c) e (reached_at (8 + (depth - 8)) passed c)
