-- `tables::insertion::insert_result` meets its contract.
-- Assumes nothing.
use Rattle.automata.specs.Derivation.{result_key}
use Rattle.tables.specs.Pending.Laws.{insert_over, insert_within_lem}
use Rattle.tables.proofs.insertion.insert_result.Goals as goal

pub returns-then-room-n-clause-t_after : goal.returns-then-room-n-clause-t_after
returns-then-room-n-clause-t_after c = insert_over _ _ _ _ c.if-room-n.true

pub returns-clause-t_after : goal.returns-clause-t_after
unfolding result_key
returns-clause-t_after c =
    (insert_within_lem _ _ _ _ _ _ c.if-room-n.false c.requires.0 c.insert_row.ensures.value c.insert_row.ensures.t_after).0

pub returns-clause-upper_bound : goal.returns-clause-upper_bound
unfolding result_key
returns-clause-upper_bound c =
    (insert_within_lem _ _ _ _ _ _ c.if-room-n.false c.requires.0 c.insert_row.ensures.value c.insert_row.ensures.t_after).1
