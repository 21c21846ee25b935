-- `first_reading::first_reading` and `first_reading::read_with` meet their contracts.
-- Assumes nothing.
use Rattle.std.proofs.Common.{ap, sym, ◌∙◌}
use Rattle.joins.specs.Joining.{as_joined}
use Rattle.first_reading.specs.Answer.Laws.{answer_none, answer_is, answer_eq, answer_fails, answer_from, answer_states, same_refl, same_after, passed_none, passed_more, passed_hit, passed_all}
use Rattle.first_reading.specs.Words.Reading.{answer_base, reading_below, tried_nothing, tried_yes, tried_no}
use Rattle.first_reading.proofs.Cut.Laws.{reading_cut}
use Rattle.first_reading.proofs.+readings.Goals as goal

pub first_reading-returns-then-left-eq0 : goal.first_reading-returns-then-left-eq0
first_reading-returns-then-left-eq0 t c = answer_base _ _ _ _ _ _ _ c.if-left-eq0.true c.is_wanted.ensures

pub first_reading-returns-then-not-can_fill : goal.first_reading-returns-then-not-can_fill
first_reading-returns-then-not-can_fill t c = answer_none _ (reading_cut _ _ _ _ _ (sym c.can_fill.ensures ∙ c.if-not-can_fill.true))

pub first_reading-loop-i-init : goal.first_reading-loop-i-init
first_reading-loop-i-init t c = (passed_none, same_refl _)

pub first_reading-returns-then-read_with : goal.first_reading-returns-then-read_with
first_reading-returns-then-read_with t c =
    let inv = c.loop-i.invariant in
    let least = c.least_member-part.ensures.s_value in
    let found = c.read_with.ensures in
    let hit = reading_below _ _ _ _ _ _ _ _ least ∙ passed_hit inv.0 c.loop-i-test.true (sym found.success ∙ c.if-read_with.true) in
    answer_from inv.1 (answer_states least (answer_eq hit (answer_is c.if-read_with.true found)))

pub first_reading-loop-i-preserved : goal.first_reading-loop-i-preserved
first_reading-loop-i-preserved t c =
    let inv = c.loop-i.invariant in
    let f = answer_fails (answer_is c.if-read_with.false c.read_with.ensures) in
    (passed_more inv.0 c.loop-i-test.true f.0, same_after inv.1 f.1)

pub first_reading-returns : goal.first_reading-returns
first_reading-returns t c =
    let inv = c.loop-i.invariant in
    let missed = reading_below _ _ _ _ _ _ _ _ c.least_member-part.ensures.s_value ∙ passed_all inv.0 c.loop-i-test.false in
    answer_from inv.1 (answer_none _ missed)

pub read_with-returns-in_default : goal.read_with-returns-in_default
read_with-returns-in_default t c =
    tried_nothing _ _ _ _ _ _ _ _ c.requires.1 _ _ _ c.move_at-m.ensures c.candidate.ensures c.parts_within.ensures _ (ap as_joined c.in_default.is)

pub read_with-returns-then-first_reading : goal.read_with-returns-then-first_reading
read_with-returns-then-first_reading t c =
    tried_yes _ _ _ _ _ _ _ _ c.requires.1 _ _ _ c.move_at-m.ensures c.candidate.ensures c.parts_within.ensures _ _ _ (ap as_joined c.in-Some.is)
    (answer_is c.if-first_reading.true c.first_reading.ensures)

pub read_with-returns : goal.read_with-returns
read_with-returns t c =
    tried_no _ _ _ _ _ _ _ _ c.requires.1 _ _ _ c.move_at-m.ensures c.candidate.ensures c.parts_within.ensures _ _ _ (ap as_joined c.in-Some.is)
    (answer_is c.if-first_reading.false c.first_reading.ensures)
