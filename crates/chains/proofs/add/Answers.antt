-- `chains::add` meets its contract.
-- Assumes nothing.
use Rattle.chains.specs.Chains.Laws.{chained_more}
use borrow.Author.Rules.{rules}
use Rattle.chains.proofs.add.Goals as goal

pub returns : goal.returns
returns c = λ key e h. chained_more key _ _ _ (search rules) (search rules) e h
