-- `put_number` meets its contract: the digits of a tenth, then the last one. The measure is the number. Assumes nothing.
use native.Mathlib.Omega.{arith}
use Rattle.text.proofs.PutLaws.{◌then◌}
use Rattle.text.proofs.DecimalLaws.{decimal_small, decimal-more, decimal-some, decimal_step}
use Rattle.text.proofs.put.+put_number.Goals as goal

pub put_digit-requires-clause-room : goal.put_digit-requires-clause-room
put_digit-requires-clause-room t c = omega (arith, decimal-some c.args.n)

pub returns-then-n-lt10 : goal.returns-then-n-lt10
returns-then-n-lt10 t c = rw (decimal_small c.args.n (omega arith)) c.put_digit.ensures

pub put_number-next-requires : goal.put_number-next-requires
put_number-next-requires t c = (omega arith, omega (arith, decimal_step c.args.n (omega arith)))

pub put_digit-requires-2-clause-room : goal.put_digit-requires-2-clause-room
put_digit-requires-2-clause-room t c = omega (arith, c.requires, c.put_number-next.ensures.next, c.put_number-next.auto, decimal_step c.args.n (omega arith))

pub returns : goal.returns
returns t c = rw (decimal-more c.args.n (omega (arith, c))) (c.put_number-next.ensures then c.put_digit-2.ensures)
