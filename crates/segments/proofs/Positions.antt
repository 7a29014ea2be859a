-- Luma positions of a component's samples, and their cells in the lists of an accepted picture.
use Prim.Native.Nat.{ℕ, ◌+◌, ◌-◌, ◌*◌, ◌/◌, ◌≤◌, ◌<◌}
use mathlib.Core.Path.{◌≡◌, refl, sym, ap, ap₂, ◌∙◌, subst}
use mathlib.Core.Bool.{Bool, false, cond}
use mathlib.Core.List.{List}
use native.Mathlib.Nat.{mul-le-mul}
use native.Mathlib.Omega.{arith}
use Rattle.filter.specs.declared.Component.{Component}
use Rattle.filter.specs.Answer.{SegmentInRange}
use Rattle.filter.specs.Segment.{Direction, vertical, horizontal, bs_of, Position, position_p}
use Rattle.picture.specs.declared.Cell.{Cell}
use Rattle.picture.specs.Cell.{cell_number}
use Rattle.picture.specs.Scale.{Sampling, whole, halved, absent, chroma_across, chroma_down, to_luma, cell_of}
use Rattle.picture.specs.Slice.{slice_at, slice_count}
use Rattle.picture.proofs.Index.{within_rows}
use Rattle.segments.specs.declared.Frame.{Frame}
use Rattle.segments.specs.declared.Sides.{Sides}
use Rattle.segments.specs.Listed.{Listed}
use Rattle.segments.specs.Ready.{Ready}
use Rattle.segments.specs.Sides.{across_for, down_for, breadth, length_of, cell_in, position_for, position_of, sides_at}

-- ---- scales

pub across_chroma : (k : Component) {n : ℕ} (x : ℕ) → k.luma ≡ false → n ≡ to_luma (chroma_across k.format) x
    → n ≡ to_luma (across_for k) x
across_chroma k x l e = e ∙ ap (λ (t : Bool). to_luma (cond t whole (chroma_across k.format)) x) (sym l)

pub down_chroma : (k : Component) {n : ℕ} (y : ℕ) → k.luma ≡ false → n ≡ to_luma (chroma_down k.format) y
    → n ≡ to_luma (down_for k) y
down_chroma k y l e = e ∙ ap (λ (t : Bool). to_luma (cond t whole (chroma_down k.format)) y) (sym l)

-- a luma position is no less than the plane's own
no_less : (s : Sampling) (n : ℕ) → n ≤ to_luma s n
no_less whole n = omega arith
no_less halved n = omega arith
no_less absent n = omega arith

-- ---- cells

-- a cell's number, of the column and the row that were worked out
pub number_is : (w : ℕ) {a b x y : ℕ} → a ≡ x → b ≡ y → cell_number w a b ≡ cell_number w x y
number_is w ea eb = ap₂ (cell_number w) ea eb

-- sample (a, b) of the plane, and the luma position that the code works out for it
module _ (k : Component) (f : Frame) {cells slices tcs : List ℕ} (ready : Ready k f cells slices tcs) (a b : ℕ)
    {x y : ℕ} (ex : x ≡ to_luma (across_for k) a) (ey : y ≡ to_luma (down_for k) b) (ha : a < f.columns)
    (hb : b < f.rows) where
  abbrev w : ℕ
  w = f.cell_columns.0

  -- the cell of a position that is not past it is one of the picture's; so is its own
  inside_before : (u v : ℕ) → u ≤ x → v ≤ y → v / 4 * w + u / 4 < f.cell_rows * w
  inside_before u v hu hv =
      within_rows w f.cell_rows (v / 4) (u / 4) (omega (arith, ready.down b hb))
      (omega (arith, ready.across a ha))

  inside : y / 4 * w + x / 4 < f.cell_rows * w
  inside = inside_before x y (omega arith) (omega arith)

  pub listed : Listed cells w x y
  listed =
      let few : f.cell_rows * w ≤ 2048 * 2048 = mul-le-mul ready.high ready.wide in
      record { small = omega (arith, inside); there = omega (arith, inside, ready.cells_long) }

  -- it is at or past the plane's own position
  pub past : (a ≤ x) × (b ≤ y)
  past = (omega (arith, no_less (across_for k) a), omega (arith, no_less (down_for k) b))

  -- and its slice is listed
  pub slice_listed : (c : Cell) → c ≡ cell_in cells w (position_of x y) → c.slice < slice_count slices
  slice_listed c e = subst (λ (r : Cell). r.slice < slice_count slices) (sym e) (ready.known _ inside)

  -- the sides of its segment are in range
  p_inside : (d : Direction)
      → cell_number w (cell_of (position_p d (position_of x y)).x) (cell_of (position_p d (position_of x y)).y)
      < f.cell_rows * w
  p_inside vertical = inside_before (x - 1) y (omega arith) (omega arith)
  p_inside horizontal = inside_before x (y - 1) (omega arith) (omega arith)

  strength : (d : Direction) → bs_of d (cell_in cells w (position_of x y)) ≤ 2
  strength vertical = ready.bsv_most _ inside
  strength horizontal = ready.bsh_most _ inside

  pub in_range : (d : Direction) (starts : List ℕ) (v : Sides)
      → v ≡ sides_at d cells starts f.log2_ctb w (position_of x y)
      → SegmentInRange v.p v.q (slice_at slices v.q.slice) (bs_of d v.q)
  unfolding sides_at
  in_range d starts v e =
      subst (λ (s : Sides). SegmentInRange s.p s.q (slice_at slices s.q.slice) (bs_of d s.q)) (sym e)
      (record {
        qp_p = ready.qp_most _ (p_inside d);
        qp_q = ready.qp_most _ inside;
        bs_most = strength d;
        tc_most = ready.tc_most _ (ready.known _ inside);
      })

-- the segment of the plane at edge e and first line l, by its Q
module _ (d : Direction) (k : Component) (f : Frame) {cells slices tcs : List ℕ} (ready : Ready k f cells slices tcs)
    (e l : ℕ) (he : e < breadth d f) (hl : l + 1 < length_of d f) where
  abbrev q : Position
  q = position_for k d e l

  pub segment_listed : Listed cells f.cell_columns.0 q.x q.y
  segment_listed = go d he hl
    where
      go : (d : Direction) → e < breadth d f → l + 1 < length_of d f
          → Listed cells f.cell_columns.0 (position_for k d e l).x (position_for k d e l).y
      go vertical he hl = listed k f ready e (l + 1) refl refl he hl
      go horizontal he hl = listed k f ready (l + 1) e refl refl hl he

  -- the sides of the segment
  module _ (starts : List ℕ) (v : Sides) (is : v ≡ sides_at d cells starts f.log2_ctb f.cell_columns.0 q) where
    pub sides_listed : v.q.slice < slice_count slices
    unfolding sides_at
    sides_listed =
        subst (λ (s : Sides). s.q.slice < slice_count slices) (sym is) (go d he hl)
      where
        go : (d : Direction) → e < breadth d f → l + 1 < length_of d f
            → (cell_in cells f.cell_columns.0 (position_for k d e l)).slice < slice_count slices
        go vertical he hl = slice_listed k f ready e (l + 1) refl refl he hl _ refl
        go horizontal he hl = slice_listed k f ready (l + 1) e refl refl hl he _ refl

    pub sides_in_range : (bS : ℕ) → bS ≡ bs_of d v.q → SegmentInRange v.p v.q (slice_at slices v.q.slice) bS
    sides_in_range bS b =
        subst (λ (n : ℕ). SegmentInRange v.p v.q (slice_at slices v.q.slice) n) (sym b) (go d he hl is)
      where
        go : (d : Direction) → e < breadth d f → l + 1 < length_of d f
            → v ≡ sides_at d cells starts f.log2_ctb f.cell_columns.0 (position_for k d e l)
            → SegmentInRange v.p v.q (slice_at slices v.q.slice) (bs_of d v.q)
        go vertical he hl is = in_range k f ready e (l + 1) refl refl he hl vertical starts v is
        go horizontal he hl is = in_range k f ready (l + 1) e refl refl hl he horizontal starts v is
