-- The output planes that are lent with a stored picture: lengths 3 to 5 of its head, and never more than the program
-- holds.
use Rattle.std.specs.Prelude.{ℕ, min, List}
use Rattle.picture_record.specs.Head.{length_in}
use Rattle.tile_run.specs.declared.LentSamples.{LentSamples}

abbrev pub lent_outputs : List ℕ → LentSamples
lent_outputs head =
    record { y = min (length_in head 3) 40000; cb = min (length_in head 4) 40000; cr = min (length_in head 5) 40000 }
