-- `run_text::put_run` meets its contract.
-- Assumes nothing.
use Prim.Native.Nat.{ℕ}
use mathlib.Core.Path.{sym, subst}
use native.Mathlib.Omega.{arith}
use Rattle.demands.specs.Laws.Accepted.{round_small}
use Rattle.start_file.specs.Checks.{files_of}
use Rattle.text.specs.Written.Laws.{written_same}
use Rattle.answer_text.specs.Bounds.{Bounded}
use Rattle.run_text.specs.Laws.Answers.{round_is, answer_bounded, answer_is, text_room}
use Rattle.run_text.proofs.put_run.Goals as goal

pub put_answer-requires : goal.put_answer-requires
put_answer-requires c =
    let g = c.guide_won-guided in
    let long = g.auto.trace in
    let is = round_is _ _ _ _ g.ensures.won c.round_of-round.ensures in
    let small = round_small (files_of c.args.case.now c.args.start.now) c.args.rounds c.args.number in (
      subst (λ (k : ℕ). Bounded c.args.number k g.result.reply) (sym long) (answer_bounded _ _ _ _ g.ensures.trace_after),
      omega arith,
      text_room long c.requires,
    )

pub returns-clause-written : goal.returns-clause-written
returns-clause-written c =
    let g = c.guide_won-guided in
    written_same (answer_is _ _ _ _ g.ensures.trace_after (round_is _ _ _ _ g.ensures.won c.round_of-round.ensures)) c.put_answer.ensures.written
