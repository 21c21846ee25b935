-- `tables::insertion::holds` meets its contract.
-- Assumes nothing.
use mathlib.Core.Path.{◌∙◌}
use Rattle.std.proofs.lemmas.Bool.{le-ltb}
use Rattle.tables.specs.Insertion.Laws.{holds_not, holds_row}
use Rattle.tables.proofs.insertion.holds.Goals as goal

pub returns-then-i-n : goal.returns-then-i-n
returns-then-i-n c = holds_row _ _ _ _ c.requires.1 _ _ c.if-i-n.true c.row_words.ensures c.words_before.ensures

pub returns-else-i-n : goal.returns-else-i-n
returns-else-i-n c = le-ltb _ _ c.if-i-n.false ∙ holds_not _ _ _ _ c.requires.1 c.if-i-n.false
