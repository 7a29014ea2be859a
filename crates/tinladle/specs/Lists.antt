-- What `tinladle_convert_cells` answers and leaves. Document 02, C-14, names no refusal; two lists that are not of one
-- length are document 01's number 6, and nothing is written then.
use Rattle.std.specs.Prelude.{ℕ, ◌≡◌, cond, List, eqb, length}
use Rattle.conversion.specs.Converted.{converted_into}

pub record Converted (cells lent : List ℕ) (number place : ℕ) (left : List ℕ) : Type 0 where
  pub number_is : number ≡ cond (eqb (length cells) (length lent)) 0 6
  pub place_is : place ≡ 0
  pub left_is : left ≡ converted_into cells lent
