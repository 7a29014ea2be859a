-- What `tinladle_checksum` answers and leaves (document 02, C-11).
use Rattle.std.specs.Prelude.{ℕ, ◌≡◌, List, ◌++◌, drop, length}
use Rattle.checksum.specs.Answer.{checksum_answer}
use Rattle.picture.specs.Picture.{Picture}

-- the number and the place of a picture's planes, and in the three lent places the sums: where there is one sum, or
-- none, the others are as they were
pub record Summed (p : Picture) (lent : List ℕ) (number place : ℕ) (left : List ℕ) : Type 0 where
  pub number_is : number ≡ (checksum_answer p).verdict.number
  pub place_is : place ≡ (checksum_answer p).verdict.place
  pub left_is : left ≡ (checksum_answer p).sums ++ drop (length (checksum_answer p).sums) lent
