-- The number and the counts, beside what guide leaves, are those of the service.
use Rattle.exports.specs.Answers.Laws.{answered}
use Rattle.exports.proofs.analyser_guide.Goals as goal

pub returns : goal.returns
returns c = answered _ _ _ _ _ _ c.guide-reply.ensures.trace_after _ c.number_of.ensures _ c.counts_of-counts.ensures
