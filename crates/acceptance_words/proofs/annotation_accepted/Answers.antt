-- `acceptance_words::annotation_accepted` meets its contract.
-- Assumes nothing.
use native.Mathlib.Omega.{arith}
use Rattle.replies.specs.Numbers.{answer_word}
use Rattle.acceptance_words.specs.Rows.Turns.{annotation_any, annotation_first, annotation_not_first, annotation_second, annotation_not_second}
use Rattle.acceptance_words.proofs.annotation_accepted.Goals as goal

pub returns-then-order-eq0-clause-value : goal.returns-then-order-eq0-clause-value
returns-then-order-eq0-clause-value c = (annotation_any _ _ _ _ c.if-order-eq0.true).0

pub returns-then-order-eq0-clause-small : goal.returns-then-order-eq0-clause-small
unfolding answer_word
returns-then-order-eq0-clause-small c = omega arith

pub returns-then-k-ne1-clause-value : goal.returns-then-k-ne1-clause-value
returns-then-k-ne1-clause-value c = (annotation_not_first _ _ _ _ c.if-order-eq1.true c.if-k-ne1.true).0

pub returns-then-k-ne1-clause-small : goal.returns-then-k-ne1-clause-small
unfolding answer_word
returns-then-k-ne1-clause-small c = omega arith

pub returns-then-order-eq1-clause-value : goal.returns-then-order-eq1-clause-value
returns-then-order-eq1-clause-value c =
    (annotation_first _ _ _ _ c.if-order-eq1.true c.if-k-ne1.false (c.accepted_by_all.ensures.value, c.accepted_by_all.ensures.small)).0

pub returns-then-k-ne2-clause-value : goal.returns-then-k-ne2-clause-value
returns-then-k-ne2-clause-value c = (annotation_not_second _ _ _ _ c.if-order-eq0.false c.if-order-eq1.false c.if-k-ne2.true).0

pub returns-then-k-ne2-clause-small : goal.returns-then-k-ne2-clause-small
unfolding answer_word
returns-then-k-ne2-clause-small c = omega arith

pub returns-clause-value : goal.returns-clause-value
returns-clause-value c =
    (annotation_second _ _ _ _ c.if-order-eq0.false c.if-order-eq1.false c.if-k-ne2.false (c.accepted_by_all-2.ensures.value, c.accepted_by_all-2.ensures.small)).0
