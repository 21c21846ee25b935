-- The number and the step, beside what replay leaves, are those of the service.
use Rattle.exports.specs.Answers.Laws.{replay_answered}
use Rattle.exports.proofs.analyser_replay.Goals as goal

pub returns : goal.returns
returns c = replay_answered _ _ _ c.replay-reply.ensures.cells_after _ c.replay_number.ensures _ c.replay_step.ensures
