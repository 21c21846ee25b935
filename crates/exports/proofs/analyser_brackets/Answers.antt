-- The number and the length, beside what brackets leaves, are those of the service.
use Rattle.exports.specs.Answers.Laws.{brackets_answered}
use Rattle.exports.proofs.analyser_brackets.Goals as goal

pub returns : goal.returns
returns c = brackets_answered _ _ _ c.brackets-reply.ensures.text_after _ c.brackets_number.ensures _ c.brackets_length.ensures
