-- `text::put_digits` meets its contract. The measure is the number.
-- Assumes nothing.
use mathlib.Core.Path.{sym}
use native.Mathlib.Omega.{arith}
use Rattle.text.specs.Written.Laws.{written_then, written_same}
use Rattle.services.specs.Listing.Decimal.{decimal_one, decimal_more, length_one, length_more}
use Rattle.text.proofs.+put_digits.Goals as goal

pub put_digit-requires : goal.put_digit-requires
put_digit-requires t c = omega (arith, length_one _ c.if-n-lt10.true)

pub returns-then-n-lt10 : goal.returns-then-n-lt10
returns-then-n-lt10 t c = written_same (sym (decimal_one _ c.if-n-lt10.true)) c.put_digit.ensures

pub put_digits-last-requires : goal.put_digits-last-requires
put_digits-last-requires t c = (omega arith, omega (arith, length_more _ c.if-n-lt10.false))

pub put_digit-requires-2 : goal.put_digit-requires-2
put_digit-requires-2 t c = omega (arith, length_more _ c.if-n-lt10.false)

pub returns : goal.returns
returns t c = written_same (sym (decimal_more _ c.if-n-lt10.false)) (written_then c.put_digits-last.ensures c.put_digit-2.ensures)
