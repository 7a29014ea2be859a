-- The parts of the ledger that are checked one after another: causes 1 to 5, of them first 1 and 2, cause 6, and causes
-- 7 to 10.
use Rattle.std.specs.Prelude.{ℕ, ◌*◌, ◌≤◌, ◌≡◌, List, [], ◌∷◌, ◌++◌, length}
use Rattle.picture.specs.Causes.{Rule, cause1, cause2, cause3, cause4, cause5, cause7, cause8, cause9, cause10}
use Rattle.picture.specs.Cell.{cell_count}
use Rattle.picture.specs.declared.Settings as Code
use Rattle.picture.specs.Given.{bare}
use Rattle.picture.specs.Ledger.{Entry, entry}
use Rattle.picture.specs.Picture.{Picture}

abbrev pub format_part : Picture → List Entry
format_part p = entry 1 (cause1 p) ∷ entry 2 (cause2 p.settings) ∷ []

abbrev pub settings_part : Picture → List Entry
settings_part p =
    format_part p
    ++ (entry 3 (cause3 p.settings)
    ∷ entry 4 (cause4 p.settings)
    ∷ entry 5 (cause5 p.settings)
    ∷ [])

abbrev pub lists_part : List Rule → Picture → List Entry
lists_part rules p =
    entry 7 (cause7 p.slices)
    ∷ entry 8 (cause8 p)
    ∷ entry 9 (cause9 rules p)
    ∷ entry 10 (cause10 p)
    ∷ []

-- what causes 1 to 6 leave for the others where they do not apply: ranges, and a cell list of its exact length
pub record Settled (s : Code.Settings) (cells : List ℕ) : Type 0 where
  pub width : s.width ≤ 8192
  pub height : s.height ≤ 8192
  pub luma_low : 8 ≤ s.luma_depth
  pub luma_high : s.luma_depth ≤ 16
  pub chroma_high : s.chroma_depth ≤ 16
  pub ctb : s.log2_ctb ≤ 6
  pub cells_long : length cells ≡ 8 * cell_count (bare s)
