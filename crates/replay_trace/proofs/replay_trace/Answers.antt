-- `replay_trace::replay_trace` meets its contract.
-- Assumes nothing.
use mathlib.Core.Path.{ap, ◌∙◌}
use Rattle.std.specs.Prelude.{Err}
use Rattle.replay_trace.specs.Turns.Laws.{turn_fails, turn_short, turn_goes, follows_all}
use borrow.Author.Rules.{rules}
use Rattle.replay_trace.proofs.replay_trace.Goals as goal

pub returns-in-Err-Fails : goal.returns-in-Err-Fails
returns-in-Err-Fails c =
    turn_fails _ c.loop-i.invariant (search rules) c.number2-number.ensures.value _ c.replay_step.ensures (c.in-Err-Fails.is ∙ ap Err c.in-Err-Fails.field-0-is)

pub returns-in-Err-Short : goal.returns-in-Err-Short
returns-in-Err-Short c =
    rw c.from.ensures (turn_short _ c.loop-i.invariant (search rules) c.number2-number.ensures.value _ c.replay_step.ensures (c.in-Err-Short.is ∙ ap Err c.in-Err-Short.field-0-is))

pub loop-i-preserved : goal.loop-i-preserved
loop-i-preserved c =
    turn_goes _ c.loop-i.invariant (search rules) c.number2-number.ensures.value _ c.replay_step.ensures _ c.in-Ok.is (search rules)

pub returns : goal.returns
returns c = follows_all _ c.loop-i.invariant (search rules)
