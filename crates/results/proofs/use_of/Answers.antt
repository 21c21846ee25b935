-- `results::use_of` meets its contract.
-- Assumes nothing.
use Rattle.results.specs.Uses.{use_of}
use Rattle.results.specs.Uses.Laws.{use_is, use_pop2, use_collapse2}
use Rattle.results.proofs.use_of.Goals as goal

pub returns-in-Rewrite : goal.returns-in-Rewrite
unfolding use_of
returns-in-Rewrite c = use_is _ _ _ _ _ c.in-Rewrite.is

pub returns-in-Push1 : goal.returns-in-Push1
unfolding use_of
returns-in-Push1 c = use_is _ _ _ _ _ c.in-Push1.is

pub returns-in-Push2 : goal.returns-in-Push2
unfolding use_of
returns-in-Push2 c = use_is _ _ _ _ _ c.in-Push2.is

pub returns-in-Copy : goal.returns-in-Copy
unfolding use_of
returns-in-Copy c = use_is _ _ _ _ _ c.in-Copy.is

pub returns-in-Pop1 : goal.returns-in-Pop1
unfolding use_of
returns-in-Pop1 c = use_is _ _ _ _ _ c.in-Pop1.is

pub returns-in-Pop2 : goal.returns-in-Pop2
returns-in-Pop2 c =
    use_pop2 _ _ _ _ _ _ _ _ c.in-Pop2.is c.one_bit-bit.ensures.set c.requires.1 c.requires.2 c.result.ensures

pub returns-in-Collapse1 : goal.returns-in-Collapse1
unfolding use_of
returns-in-Collapse1 c = use_is _ _ _ _ _ c.in-Collapse1.is

pub returns-in-Collapse2 : goal.returns-in-Collapse2
returns-in-Collapse2 c =
    use_collapse2 _ _ _ _ _ _ _ _ c.in-Collapse2.is c.one_bit-bit.ensures.set c.requires.1 c.requires.2 c.result-in-Collapse2.ensures
