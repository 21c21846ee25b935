-- `acceptance_words::put_earlier` meets its contract.
-- Assumes nothing.
use Rattle.acceptance_words.specs.Rows.Turns.{earlier_word, put_written}
use Rattle.acceptance_words.proofs.put_earlier.Goals as goal

pub word_of-requires : goal.word_of-requires
word_of-requires c = earlier_word _ _ c.earlier-b.ensures c.accepted.ensures.small c.requires.2

pub returns : goal.returns
returns c =
    let a = c.args in
    put_written a.rounds.now a.cell a.state _ c.accepted.ensures.value c.earlier-b.ensures c.word_of.ensures
