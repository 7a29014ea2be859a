-- `put_digits` calls itself: the measure is n, and n / 10 is less.
use Rattle.text.proofs.puts.+put_digits.Given as goal

abbrev pub decreases-put_digits : goal.decreases-put_digits
decreases-put_digits l = l.n
