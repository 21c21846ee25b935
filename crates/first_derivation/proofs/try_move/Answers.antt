-- `first_derivation::try_move` meets its contract.
-- Assumes nothing.
use mathlib.Core.Path.{sym, ◌∙◌}
use native.Mathlib.Omega.{arith}
use Rattle.first_reading.specs.Answer.Laws.{answers_none, answers_is}
use Rattle.first_derivation.specs.Premises.Loops.{other_move, other_entry, move_gives_lem}
use Rattle.first_derivation.proofs.try_move.Goals as goal
use Rattle.first_derivation.proofs.try_move.Goals.{then-m-b, else-m-b}

pub returns-then-entry_of : goal.returns-then-entry_of
returns-then-entry_of c = elim c.if-m-b.branch [
  | then-m-b w ↦
      move_gives_lem _ _ _ _ _ _ _ _ _ _ c.requires.1 _ c.move_at-m.ensures w.if-m-b.true (sym w.entry_of.ensures ∙ sym w.value-is ∙ c.if-entry_of.true) c.by_move.ensures
  | else-m-b w ↦ grind arith
]

pub returns-else-entry_of : goal.returns-else-entry_of
returns-else-entry_of c =
    answers_is (sym c.if-entry_of.false)
    (answers_none _ _
    (elim c.if-m-b.branch [
      | then-m-b w ↦ other_entry _ _ _ _ _ _ _ _ _ _ c.requires.1 _ c.move_at-m.ensures w.if-m-b.true (sym w.entry_of.ensures ∙ sym w.value-is ∙ c.if-entry_of.false)
      | else-m-b w ↦ other_move _ _ _ _ _ _ _ _ _ _ c.requires.1 _ c.move_at-m.ensures w.if-m-b.false
    ]))
