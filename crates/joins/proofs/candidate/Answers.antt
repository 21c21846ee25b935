-- `joins::candidate` meets its contract.
-- Assumes nothing.
use borrow.Author.Tests.{eq-eqb, ne_eqb}
use Rattle.joins.specs.Joining.{candidate_of}
use Rattle.joins.proofs.candidate.Goals as goal
use Rattle.joins.proofs.candidate.Goals.{then-m-q-via-then-m-q, then-m-q-via-else-m-q+then-m-a}

pub returns-then-m-q : goal.returns-then-m-q
unfolding candidate_of
returns-then-m-q c = elim c.then-m-q.branch [
  | then-m-q-via-then-m-q w ↦ rw (ne_eqb _ _ w.if-m-q.true, candidate_of)
  | then-m-q-via-else-m-q+then-m-a w ↦ rw (eq-eqb _ _ w.if-m-q.false, ne_eqb _ _ w.if-m-a.true, candidate_of)
]

pub returns : goal.returns
unfolding candidate_of
returns c = rw (eq-eqb _ _ c.if-m-q.false, eq-eqb _ _ c.if-m-a.false, candidate_of) c.join_move.ensures
