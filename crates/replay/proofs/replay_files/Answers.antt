-- `replay::replay_files` meets its contract.
-- Assumes nothing.
use Rattle.replies.specs.Numbers.Laws.{numbered}
use Rattle.replay.specs.Service.Laws.{run_ready, reply_refused, reply_run}
use borrow.Author.Rules.{rules}
use Rattle.replay.proofs.replay_files.Goals as goal

pub returns-in_err-refusal_of : goal.returns-in_err-refusal_of
returns-in_err-refusal_of c =
    let h = reply_refused _ _ _ _ _ c.in_err-refusal_of.ensures (numbered _) in
    search (rules, h)

pub replay_sound-requires : goal.replay_sound-requires
replay_sound-requires c = run_ready _ _ _ _ _ c.in_ok-refusal_of.ensures c.cells_lent-most.ensures

pub returns : goal.returns
returns c = reply_run _ _ _ _ _ c.in_ok-refusal_of.ensures c.cells_lent-most.ensures c.replay_sound.ensures
