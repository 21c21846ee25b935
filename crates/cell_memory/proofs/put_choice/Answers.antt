-- `cell_memory::put_choice` meets its contract.
-- Assumes nothing.
use borrow.Author.Rules.{rules}
use Rattle.cell_memory.specs.Memory.{with_choice}
use Rattle.cell_memory.proofs.put_choice.Goals as goal

pub returns : goal.returns
unfolding with_choice
returns c = search rules
