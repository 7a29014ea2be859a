-- What a reader has lost and a writer has got, where the bytes of both are known: as they were before and are after.
use Rattle.std.specs.Prelude.{◌≡◌, ◌≤◌, ℕ, Bool, true, List, Option, length}
use Rattle.std.specs.Io.KnownBytes.{Appends, Consumes}
use Rattle.conversion.specs.Converted.{converted}

-- n bytes were read, or fewer where not `full`, and what was written is the list of them converted
pub record Converts (n : ℕ) (full : Bool) (left rest held now : Option (List ℕ)) : Type 0 where
  pub bytes : List ℕ
  pub at_most : length bytes ≤ n
  pub all : full ≡ true → length bytes ≡ n
  pub read : Consumes left rest bytes
  pub written : Appends held now (converted bytes)
