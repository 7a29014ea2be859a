-- `text::put_digits`, which calls itself, meets its contract: the digits before the last, and then the last.
use native.Mathlib.Omega.{arith}
use Rattle.text.proofs.Append.{appended_then}
use Rattle.text.proofs.Decimal.{decimal_small, decimal_more, decimal_some, length_more}
use Rattle.text.proofs.puts.+put_digits.Goals as goal

pub put_byte-requires : goal.put_byte-requires
put_byte-requires t c = omega (arith, decimal_some c.args.n)

pub put_digits-last-requires : goal.put_digits-last-requires
put_digits-last-requires t c = omega (arith, length_more c.if-n-lt10.false)

pub put_byte-requires-else-n-lt10 : goal.put_byte-requires-else-n-lt10
put_byte-requires-else-n-lt10 t c = omega (arith, length_more c.if-n-lt10.false)

pub returns-then-n-lt10 : goal.returns-then-n-lt10
returns-then-n-lt10 t c = rw (decimal_small c.if-n-lt10.true) c.put_byte.ensures

pub returns-else-n-lt10 : goal.returns-else-n-lt10
returns-else-n-lt10 t c =
    rw (decimal_more c.if-n-lt10.false) (appended_then c.put_digits-last.ensures c.put_byte-else-n-lt10.ensures)
