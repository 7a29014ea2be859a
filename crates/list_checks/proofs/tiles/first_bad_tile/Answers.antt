-- `first_bad_tile` meets its contract: the place found in the columns, or in the rows, numbered on.
-- Assumes nothing.
use Rattle.std.proofs.Common.{ℕ, ◌≡◌, ◌*◌, ◌%◌, ◌^◌, ◌≤◌, ◌<◌, List, arith, refl, ◌∙◌}
use Rattle.ints.proofs.Powers.{power_least, power_most, shifted}
use Rattle.picture.specs.Causes.{starts_cause}
use Rattle.picture.specs.Ledger.{Cause, first_place}
use Rattle.list_checks.proofs.Places.{in_first, in_neither, in_second}
use Rattle.list_checks.proofs.tiles.first_bad_tile.Goals as goal

-- the size of a CTB, as the code shifts it
size_of : (log2 : ℕ) → log2 ≤ 6 → 1 * 2 ^ log2 % 4294967296 ≡ 2 ^ log2
size_of log2 h = shifted log2 (omega arith)

size_small : (log2 : ℕ) → log2 ≤ 6 → (0 < 1 * 2 ^ log2 % 4294967296) × (1 * 2 ^ log2 % 4294967296 ≤ 65536)
size_small log2 h = rw (size_of log2 h) (omega (arith, power_least log2, power_most log2 (omega arith)))

pub first_bad_start-requires : goal.first_bad_start-requires
first_bad_start-requires c =
    omega (arith, size_small c.args.settings.log2_ctb (omega arith))

pub first_bad_start-requires-2 : goal.first_bad_start-requires-2
first_bad_start-requires-2 c =
    omega (arith, size_small c.args.settings.log2_ctb (omega arith))

abbrev starts : List ℕ → ℕ → ℕ → Cause
starts list log2 total = starts_cause list (2 ^ log2) total

pub returns-in-Some : goal.returns-in-Some
returns-in-Some c =
    let s = c.args.settings in
    let size = size_of s.log2_ctb (omega arith) in
    let across : c.first_bad_start.result ≡ first_place (starts c.args.columns.now s.log2_ctb s.width) =
    rw size at c.first_bad_start.ensures in
    in_first (starts c.args.columns.now s.log2_ctb s.width) (starts c.args.rows.now s.log2_ctb s.height) across refl
    c.in-Some.is

pub returns-in_err-row : goal.returns-in_err-row
returns-in_err-row c =
    let s = c.args.settings in
    let size = size_of s.log2_ctb (omega arith) in
    let across : c.first_bad_start.result ≡ first_place (starts c.args.columns.now s.log2_ctb s.width) =
    rw size at c.first_bad_start.ensures in
    let down : c.first_bad_start-2.result ≡ first_place (starts c.args.rows.now s.log2_ctb s.height) =
    rw size at c.first_bad_start-2.ensures in
    c.from_residual.ensures
    ∙ in_neither (starts c.args.columns.now s.log2_ctb s.width) (starts c.args.rows.now s.log2_ctb s.height) across
    down c.in_default.not-Some c.in_err-row.was

pub returns : goal.returns
returns c =
    let s = c.args.settings in
    let size = size_of s.log2_ctb (omega arith) in
    let across : c.first_bad_start.result ≡ first_place (starts c.args.columns.now s.log2_ctb s.width) =
    rw size at c.first_bad_start.ensures in
    let down : c.first_bad_start-2.result ≡ first_place (starts c.args.rows.now s.log2_ctb s.height) =
    rw size at c.first_bad_start-2.ensures in
    in_second (starts c.args.columns.now s.log2_ctb s.width) (starts c.args.rows.now s.log2_ctb s.height) across
    down c.in_default.not-Some c.in_ok-row.was
