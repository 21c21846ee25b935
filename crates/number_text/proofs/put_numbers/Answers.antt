-- `number_text::put_numbers` meets its contract.
-- Assumes nothing.
use native.Mathlib.Omega.{arith}
use borrow.Author.Rules.{rules}
use Rattle.text.specs.Written.Laws.{written_then, written_same}
use Rattle.number_text.specs.Numbers.Laws.{five_digits, no_numbers_lem, some_numbers}
use Rattle.number_text.proofs.put_numbers.Goals as goal

pub returns-in_default-clause-written : goal.returns-in_default-clause-written
returns-in_default-clause-written c = (no_numbers_lem _ _ _ c.in_default.ensures.cases).0

pub put_spaced-requires : goal.put_spaced-requires
put_spaced-requires c =
    let digits = five_digits c.put_decimal-end.ensures.written (search rules) in
    omega (arith, c.in-Some.ensures.cases.1)

pub returns-clause-written : goal.returns-clause-written
returns-clause-written c =
    written_same (some_numbers c.in-Some.ensures.cases.0 c.from.ensures) (written_then c.put_decimal-end.ensures.written c.put_spaced.ensures.written)

pub returns-clause-within : goal.returns-clause-within
returns-clause-within c =
    let digits = five_digits c.put_decimal-end.ensures.written (search rules) in
    omega (arith, c.in-Some.ensures.cases.1)
