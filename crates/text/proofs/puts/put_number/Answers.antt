-- `put_number` meets its contract: a u16 has five digits at most.
use Rattle.std.proofs.Common.{arith}
use Rattle.text.proofs.Decimal.{decimal_short}
use Rattle.text.proofs.puts.put_number.Goals as goal

pub put_digits-requires : goal.put_digits-requires
put_digits-requires c = omega (arith, decimal_short c.ranges.n.fits)

pub returns-clause-upper_bound : goal.returns-clause-upper_bound
returns-clause-upper_bound c = omega (arith, decimal_short c.ranges.n.fits)
