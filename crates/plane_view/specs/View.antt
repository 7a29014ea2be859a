-- Document 01: "The plane view carries lent samples with their width and height, as `RefPlane` in src/mc.rs does."
-- What its accessors answer, over the list of the samples.
use Rattle.std.specs.Prelude.{ℕ, ◌+◌, ◌*◌, Bool, cond, ◌&&◌, List, ltb, eqb, length, Option, None, Some}
use Rattle.picture.specs.Plane.{at}

-- columns and rows
pub record Size : Type 0 where
  pub width : ℕ
  pub height : ℕ

-- a sample for each column of each row, and no more
abbrev pub is_plane : List ℕ → ℕ → ℕ → Bool
is_plane list width height = eqb (length list) (width * height)

-- the size that a view shows: 0 by 0 where the list is no plane
abbrev pub view_size : List ℕ → ℕ → ℕ → Size
view_size list width height =
    cond (is_plane list width height) (record { width = width; height = height }) (record { width = 0; height = 0 })

-- the sample at column x of row y, where the size and the list have that place
abbrev pub sample_in : List ℕ → ℕ → ℕ → ℕ → ℕ → Option ℕ
sample_in list width height x y =
    cond (ltb x width && (ltb y height && ltb (y * width + x) (length list))) (Some (at list width x y)) None

-- the sample at column x of row y of a plane; a list that is no plane of that size has none
abbrev pub plane_sample : List ℕ → ℕ → ℕ → ℕ → ℕ → Option ℕ
plane_sample list width height x y =
    cond (is_plane list width height && (ltb x width && ltb y height)) (Some (at list width x y)) None
