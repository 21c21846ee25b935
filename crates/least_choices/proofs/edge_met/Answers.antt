-- `least_choices::edge_met` meets its contract.
-- Assumes nothing.
use Rattle.tables.specs.Records.{as_edge}
use Rattle.least_choices.specs.Starts.Turns.{met_edge}
use Rattle.least_choices.proofs.edge_met.Goals as goal

pub returns : goal.returns
returns c =
    let a = c.args in
    met_edge _ _ (as_edge a.e) c.edge_accepted.ensures.value c.is_won.ensures
