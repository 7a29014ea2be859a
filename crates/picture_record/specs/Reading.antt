-- What a read of numbers takes of the bytes that a reader has left, where they are known.
use Rattle.std.specs.Prelude.{◌≡◌, ℕ, ◌*◌, List, length, Option}
use Rattle.std.specs.Io.KnownBytes.{Consumes}
use Rattle.picture_record.specs.Numbers.{halves}

-- two bytes for each number, low byte first
abbrev pub ConsumesNumbers : Option (List ℕ) → Option (List ℕ) → List ℕ → Type 0
ConsumesNumbers old new numbers =
    (bytes : List ℕ)
    × Consumes old new bytes
    × (length bytes ≡ 2 * length numbers)
    × (numbers ≡ halves bytes (length numbers))
