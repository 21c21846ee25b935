-- `show_text::put_shown` meets its contract.
-- Assumes nothing.
use Rattle.services.specs.Listing.{ascii}
use Rattle.text.specs.Written.Laws.{written_same, written_then}
use Rattle.show_text.specs.Laws.Answers.{shown_refused, shown_printed}
use Rattle.show_text.proofs.put_shown.Goals as goal

pub returns-in-Refused-clause-written : goal.returns-in-Refused-clause-written
returns-in-Refused-clause-written c = written_same (shown_refused c.args.bytes.now c.in-Refused.is) c.put_refused.ensures.written

pub returns-in-Printed-clause-written : goal.returns-in-Printed-clause-written
unfolding ascii
returns-in-Printed-clause-written c =
    let a = c.put_text-end.ensures in
    let b = c.put_text.ensures in
    written_same (shown_printed c.args.bytes.now c.in-Printed.is) (written_then a b)
