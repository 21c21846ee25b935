-- `text::put_reply` meets its contract.
-- Assumes nothing.
use mathlib.Core.Path.{ap, sym}
use Rattle.services.specs.Listing.{ascii, reply_text}
use Rattle.text.specs.Written.Laws.{written_then, written_same}
use Rattle.text.proofs.put_reply.Goals as goal

pub returns-in-Refused-clause-written : goal.returns-in-Refused-clause-written
unfolding reply_text ascii
returns-in-Refused-clause-written c =
    written_same (sym (ap (reply_text _) c.in-Refused.is)) (written_then c.put_text-number.ensures c.put_decimal.ensures.written)

pub returns-in-NoRun-clause-written : goal.returns-in-NoRun-clause-written
unfolding reply_text ascii
returns-in-NoRun-clause-written c = written_same (sym (ap (reply_text _) c.in-NoRun.is)) c.put_text.ensures

pub returns-in-Open-clause-written : goal.returns-in-Open-clause-written
unfolding reply_text ascii
returns-in-Open-clause-written c = written_same (sym (ap (reply_text _) c.in-Open.is)) c.put_text-in-Open.ensures

pub returns-in-Walked-clause-written : goal.returns-in-Walked-clause-written
unfolding reply_text ascii
returns-in-Walked-clause-written c =
    written_same (sym (ap (reply_text _) c.in-Walked.is)) (written_then c.put_text-halt.ensures c.put_halt.ensures.written)
