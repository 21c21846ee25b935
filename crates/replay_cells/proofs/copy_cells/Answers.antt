-- `replay_cells::copy_cells` meets its contract.
-- Assumes nothing.
use Rattle.words.specs.Copied.Laws.{copied_sets}
use borrow.Author.Rules.{rules}
use Rattle.replay_cells.proofs.copy_cells.Goals as goal

pub returns : goal.returns
returns c = copied_sets c.loop-i.invariant (search rules) (search rules)
