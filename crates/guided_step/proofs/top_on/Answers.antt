-- `guided_step::top_on` meets its contract.
-- Assumes nothing.
use Rattle.std.proofs.Math.Logic.{⊎_elim}
use Rattle.walks.specs.Guide.{guided_at}
use Rattle.guided_step.specs.Walks.Laws.{on_empty1, on_symbol, on_empty2, on_above}
use Rattle.guided_step.proofs.top_on.Goals as goal

pub returns-in-Symbol : goal.returns-in-Symbol
unfolding guided_at
returns-in-Symbol c = on_symbol _ _ _ _ c.cell_of.ensures c.in-Symbol.is c.choice_of.ensures

pub returns-in-Empty1 : goal.returns-in-Empty1
unfolding guided_at
returns-in-Empty1 c =
    let cell = c.cell_of.ensures in
    ⊎_elim (λ e. on_empty1 _ _ _ _ cell e) (λ f. ⊎_elim (λ e. on_empty2 _ _ _ _ cell e) (λ g. on_above _ _ _ _ cell g.2) f) c.in-Empty1.is
