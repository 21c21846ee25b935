-- `choices::fewest` meets its contract.
-- Assumes nothing.
use Rattle.choices.specs.Fewest.Laws.{among_start, among_passed, among_better}
use Rattle.choices.proofs.fewest.Goals as goal

pub loop-rest-init : goal.loop-rest-init
loop-rest-init c =
    among_start _ _ _ c.least_member-first.ensures.s_value c.least_member-first.ensures.member_bound

pub loop-rest-preserved-then-k-n : goal.loop-rest-preserved-then-k-n
loop-rest-preserved-then-k-n c =
    among_better _ _ _ c.least_member-part.ensures.s_value c.loop-rest.invariant c.least_member-part.ensures.member_bound

pub loop-rest-preserved : goal.loop-rest-preserved
loop-rest-preserved c = among_passed _ _ _ c.least_member-part.ensures.s_value c.loop-rest.invariant
