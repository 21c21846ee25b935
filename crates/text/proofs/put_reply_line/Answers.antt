-- `text::put_reply_line` meets its contract.
-- Assumes nothing.
use native.Mathlib.Omega.{arith}
use Rattle.services.specs.Listing.{ascii, reply_line}
use Rattle.text.specs.Written.Laws.{written_then}
use Rattle.services.specs.Listing.Decimal.{decimal_length}
use Rattle.text.proofs.put_reply_line.Goals as goal

pub put_reply-after_reply-requires : goal.put_reply-after_reply-requires
put_reply-after_reply-requires c = (c.requires.1, omega (arith, decimal_length 2 c.args.n (omega arith) c.requires.0))

pub put_text-requires : goal.put_text-requires
put_text-requires c = omega (arith, decimal_length 2 c.args.n (omega arith) c.requires.0)

pub returns-clause-written : goal.returns-clause-written
unfolding reply_line ascii
returns-clause-written c =
    written_then (written_then (written_then c.put_text-number.ensures c.put_decimal-after_number.ensures.written) c.put_reply-after_reply.ensures.written) c.put_text.ensures

pub returns-clause-within : goal.returns-clause-within
unfolding reply_line ascii
returns-clause-within c = omega (arith, decimal_length 2 c.args.n (omega arith) c.requires.0)
