-- `number_text::named` meets its contract.
-- Assumes nothing.
use borrow.Author.Rules.{rules}
use Rattle.number_text.specs.Named.Laws.{read_all, named_none}
use Rattle.number_text.proofs.named.Goals as goal

pub returns-then-is_empty : goal.returns-then-is_empty
returns-then-is_empty c = named_none _ _ (search rules)

pub returns : goal.returns
returns c = read_all _ c.loop-byte.invariant (search rules) (search rules)
