-- `guided_step::top_of` meets its contract.
-- Assumes nothing.
use Rattle.std.proofs.Math.Logic.{⊎_elim}
use Rattle.automata.specs.Automaton.{edges}
use Rattle.walks.specs.Guide.{guided_at}
use Rattle.guided_step.specs.Walks.Laws.{of_empty1, of_symbol, of_empty2, of_above}
use Rattle.guided_step.proofs.top_of.Goals as goal

pub returns-in-Empty1 : goal.returns-in-Empty1
unfolding guided_at
returns-in-Empty1 c =
    let cell = c.cell_of.ensures in
    ⊎_elim (λ e. of_empty1 _ _ cell e) (λ f. ⊎_elim (λ e. of_empty2 _ _ cell e) (λ g. of_symbol _ _ cell g.3) f) c.in-Empty1.is

pub returns-in-Above : goal.returns-in-Above
unfolding guided_at edges
returns-in-Above c =
    of_above _ _ c.cell_of.ensures c.in-Above.is c.choice_of-e.ensures c.first_of-r.ensures c.top_on.ensures
