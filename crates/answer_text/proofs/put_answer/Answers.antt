-- `answer_text::put_answer` meets its contract.
-- Assumes nothing.
use mathlib.Core.Path.{ap, sym}
use native.Mathlib.Omega.{arith}
use borrow.Author.Rules.{rules}
use Rattle.replies.specs.declared.Reply.{Reply}
use Rattle.services.specs.Run.{answer_text}
use Rattle.text.specs.Written.Laws.{written_same}
use Rattle.answer_text.specs.Laws.Lines.{number_few, line_alone}
use Rattle.answer_text.proofs.put_answer.Goals as goal

pub put_reply_line-requires : goal.put_reply_line-requires
put_reply_line-requires c =
    let few = number_few _ c.in-NoRun.is _ _ c.requires.0 in
    (omega arith, search rules, search rules)

pub returns-in-Refused-clause-written : goal.returns-in-Refused-clause-written
unfolding answer_text
returns-in-Refused-clause-written c =
    let is = ap (λ (r : Reply). answer_text c.args.number c.args.round r c.args.trace.now) c.in-Refused.is in
    written_same (sym is) c.put_refused.ensures.written

pub returns-in-NoRun-clause-written : goal.returns-in-NoRun-clause-written
returns-in-NoRun-clause-written c = written_same (line_alone _ c.in-NoRun.is _ _ _) c.put_reply_line.ensures.written
