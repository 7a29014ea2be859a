-- What document 02's C-22 answers to a float: "The way back, told depth and luma or chroma, returns the sample for
-- exactly those floats and refuses every other". "Checks: .. for the way back, 3 and then new 15 for a float that no
-- sample gives; 14 and 15 have place 0."
use Rattle.std.specs.Prelude.{ℕ, ◌≡◌, Bool, true, false, List, [], ◌∷◌, Float, Result, Ok, Err}
use Rattle.picture.specs.Causes.{bad_depth}
use Rattle.picture.specs.Ledger as Ledger
use Rattle.picture.specs.Ledger.{any_of}
use Rattle.ledger.specs.Numbered.{refusal}
use Rattle.float_samples.specs.Sample.{Gives}
use Rattle.recogniser.specs.declared.SampleRefusal.TheVariants.{Depth, NoSample}
use Rattle.recogniser.specs.declared.SampleRefusal.{SampleRefusal}

-- a number with its place, and the sample; a refusal has none
pub record Answer : Type 0 where
  pub verdict : Ledger.Verdict
  pub samples : List ℕ

abbrev pub refused : ℕ → Answer
refused number = record { verdict = refusal number 0; samples = [] }

abbrev pub returned : ℕ → Answer
returned sample = record { verdict = Ledger.acceptance; samples = sample ∷ [] }

-- the paper's number, place and sample, for every case of the enum
abbrev pub answer_of : Result ℕ SampleRefusal → Answer
answer_of (Err Depth) = refused 3
answer_of (Err NoSample) = refused 15
answer_of (Ok s) = returned s

-- cause 3 of document 01, of this depth
abbrev pub is_bad : ℕ → Bool
is_bad depth = any_of (bad_depth depth)

-- the answer that the request asks for
module _ (depth : ℕ) (chroma : Bool) (value : Float) (a : Answer) where
  pub data WayBack : Type 0 where
    is_bad_depth : is_bad depth ≡ true → a ≡ refused 3 → WayBack
    no_sample : is_bad depth ≡ false → ((s : ℕ) → Gives depth chroma s value → ⊥) → a ≡ refused 15 → WayBack
    the_sample : is_bad depth ≡ false → (s : ℕ) → Gives depth chroma s value → a ≡ returned s → WayBack
