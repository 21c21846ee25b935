-- `judge::mark_of` meets its contract.
-- Assumes nothing.
use mathlib.Core.Path.{sym, ◌∙◌}
use Rattle.judge.specs.Marks.Laws.{won_word, open_word_lem, no_word}
use Rattle.judge.proofs.mark_of.Goals as goal

pub returns-then-is_won : goal.returns-then-is_won
returns-then-is_won c = c.word_of.ensures ∙ won_word c.args.more c.args.won (sym c.is_won.ensures ∙ c.if-is_won.true)

pub returns-then-more : goal.returns-then-more
returns-then-more c = open_word_lem c.args.more c.args.won (sym c.is_won.ensures ∙ c.if-is_won.false) c.if-more.true

pub returns : goal.returns
returns c = no_word c.args.more c.args.won (sym c.is_won.ensures ∙ c.if-is_won.false) c.if-more.false
