-- `case_tables::load_inner` meets its contract. The invariant: the inner edges from number i on stand sorted in the first k rows.
-- Assumes nothing.
use Rattle.case_tables.specs.Decoded.Laws.{inner_last, inner_step, inner_all}
use Rattle.case_tables.proofs.load_inner.Goals as goal

pub loop-i-init : goal.loop-i-init
loop-i-init c = inner_last _ _ _ _

pub loop-i-preserved : goal.loop-i-preserved
loop-i-preserved c =
    inner_step _ _ _ _ _ _ _ _ _ _ c.loop-i.invariant c.loop-i-test.true c.edge_at.ensures c.add_inner-k.ensures c.add_inner-k.auto.t

pub returns-clause-t_after : goal.returns-clause-t_after
returns-clause-t_after c = (inner_all _ _ _ _ _ _ _ c.loop-i.invariant c.loop-i-test.false c.requires.2).0

pub returns-clause-value : goal.returns-clause-value
returns-clause-value c = (inner_all _ _ _ _ _ _ _ c.loop-i.invariant c.loop-i-test.false c.requires.2).1.0
