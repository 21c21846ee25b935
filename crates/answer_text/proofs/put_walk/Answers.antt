-- `answer_text::put_walk` meets its contract.
-- Assumes nothing.
use mathlib.Core.Path.{sym}
use native.Mathlib.Omega.{arith}
use lib.Seq.{length-take-le}
use borrow.Author.Rules.{rules}
use Rattle.services.specs.Listing.{ascii}
use Rattle.text.specs.Written.Laws.{written_then}
use Rattle.answer_text.specs.Bounds.{Bounded}
use Rattle.answer_text.specs.Laws.Walks.{walk_text}
use Rattle.answer_text.proofs.put_walk.Goals as goal

pub put_reply_line-line-requires : goal.put_reply_line-line-requires
unfolding Bounded
put_reply_line-line-requires c = let p = c.requires.0 in (omega arith, search rules, search rules)

pub slice_bounds-put_numbers-end : goal.slice_bounds-put_numbers-end
unfolding Bounded
slice_bounds-put_numbers-end c =
    let p = c.requires.0 in
    let s = c.steps_of-steps.ensures in
    sym (length-take-le _ _ (omega arith))

pub returns-clause-written : goal.returns-clause-written
unfolding Bounded ascii
returns-clause-written c =
    let steps = c.steps_of-steps in
    let end = c.put_text.ensures in
    walk_text _ _ _ _ steps.ensures (written_then c.put_reply_line-line.ensures.written (written_then c.put_numbers-end.ensures.written end))
