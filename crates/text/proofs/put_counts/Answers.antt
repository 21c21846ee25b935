-- `text::put_counts` meets its contract.
-- Assumes nothing.
use native.Mathlib.Omega.{arith}
use Rattle.services.specs.Listing.{ascii, counts_text}
use Rattle.text.specs.Written.Laws.{written_then}
use Rattle.services.specs.Listing.Decimal.{decimal_length}
use Rattle.text.proofs.put_counts.Goals as goal

pub put_decimal-requires : goal.put_decimal-requires
put_decimal-requires c = omega (arith, decimal_length 4 c.args.round (omega arith) c.requires.0)

pub returns-clause-written : goal.returns-clause-written
unfolding counts_text ascii
returns-clause-written c =
    let round = written_then c.put_text-number.ensures c.put_decimal-after_round.ensures.written in
    let counts = written_then (written_then round c.put_text-steps.ensures) c.put_decimal-after_steps.ensures.written in
    written_then (written_then counts c.put_text-cells.ensures) c.put_decimal.ensures.written

pub returns-clause-within : goal.returns-clause-within
unfolding counts_text ascii
returns-clause-within c =
    let round = written_then c.put_text-number.ensures c.put_decimal-after_round.ensures.written in
    omega (arith, decimal_length 4 c.args.round (omega arith) c.requires.0)
