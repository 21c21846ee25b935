-- `first_reading::first_edges` and `first_reading::follow` meet their contracts.
-- Assumes nothing.
use borrow.Author.Tests.{ne_eqb}
use Rattle.std.proofs.Common.{sym, ◌∙◌}
use Rattle.first_reading.specs.Answer.Laws.{answers_none, answers_is, answers_eq, answers_fails, answers_from, same_refl, same_after, passed_none, passed_more, passed_hit, passed_all}
use Rattle.first_reading.specs.Words.Edges.{base_other, base_answers, followed_other, followed_no_part, followed_yes, followed_no, edges_counted, states_edges}
use Rattle.first_reading.proofs.+edges.Goals as goal

pub first_edges-returns-then-s-x : goal.first_edges-returns-then-s-x
first_edges-returns-then-s-x t c = base_answers _ _ _ _ _ _ _ _ _ _ c.if-left-eq0.true c.if-s-x.true c.first_reading.ensures _

pub first_edges-returns-else-s-x : goal.first_edges-returns-else-s-x
first_edges-returns-else-s-x t c =
    answers_is (sym (ne_eqb _ _ c.if-s-x.false)) (answers_none _ _ (base_other _ _ _ _ _ _ _ _ _ _ c.if-left-eq0.true c.if-s-x.false))

pub first_edges-loop-e-init : goal.first_edges-loop-e-init
first_edges-loop-e-init t c = (passed_none, same_refl _, same_refl _)

pub first_edges-returns-then-follow : goal.first_edges-returns-then-follow
first_edges-returns-then-follow t c =
    let inv = c.loop-e.invariant in
    let least = c.least_member-part.ensures.s_value in
    let found = c.follow.ensures in
    let hit = edges_counted _ _ _ _ _ _ _ _ _ _ _ _ _ c.edge_count-n.ensures least ∙ passed_hit inv.0 c.loop-e-test.true (sym found.edges.success ∙ c.if-follow.true) in
    answers_from inv.1 inv.2 (states_edges least (answers_eq hit (answers_is c.if-follow.true found)))

pub first_edges-loop-e-preserved : goal.first_edges-loop-e-preserved
first_edges-loop-e-preserved t c =
    let inv = c.loop-e.invariant in
    let f = answers_fails (answers_is c.if-follow.false c.follow.ensures) in
    (passed_more inv.0 c.loop-e-test.true f.0, same_after inv.1 f.1, same_after inv.2 f.2)

pub first_edges-returns : goal.first_edges-returns
first_edges-returns t c =
    let inv = c.loop-e.invariant in
    let missed = edges_counted _ _ _ _ _ _ _ _ _ _ _ _ _ c.edge_count-n.ensures c.least_member-part.ensures.s_value ∙ passed_all inv.0 c.loop-e-test.false in
    answers_from inv.1 inv.2 (answers_none _ _ missed)

pub follow-returns-then-g-q : goal.follow-returns-then-g-q
follow-returns-then-g-q t c = answers_none _ _ (followed_other _ _ _ _ _ _ _ _ _ _ _ _ _ c.edge_of-g.ensures.result_value c.if-g-q.true)

pub follow-returns-then-not-part_of : goal.follow-returns-then-not-part_of
follow-returns-then-not-part_of t c =
    let no_part = sym c.part_of.ensures ∙ c.if-not-part_of.true in
    answers_none _ _ (followed_no_part _ _ _ _ _ _ _ _ _ _ c.args.s _ _ c.edge_of-g.ensures.result_value c.if-g-q.false c.join-below.ensures no_part)

pub follow-returns-then-first_edges : goal.follow-returns-then-first_edges
follow-returns-then-first_edges t c =
    followed_yes _ _ _ _ _ _ _ _ _ _ _ _ _ c.edge_of-g.ensures.result_value c.if-g-q.false c.one_bit.ensures.set c.join-named.ensures c.join-below.ensures
    (answers_is c.if-first_edges.true c.first_edges.ensures)

pub follow-returns : goal.follow-returns
follow-returns t c =
    followed_no _ _ _ _ _ _ _ _ _ _ _ _ _ c.edge_of-g.ensures.result_value c.if-g-q.false c.one_bit.ensures.set c.join-named.ensures c.join-below.ensures
    (answers_is c.if-first_edges.false c.first_edges.ensures)
