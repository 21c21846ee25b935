-- `first_derivation::first_derivation`: what its loops keep.
use Rattle.tables.specs.View.{automaton_in}
use Rattle.tables.specs.Records.{as_result}
use Rattle.first_reading.specs.Answer.{NotFoundBelow, Unchanged}
use Rattle.first_derivation.specs.Derived.{rule_gives, StatesSmall}
use Rattle.first_derivation.proofs.first_derivation.Given as goal

abbrev pub invariant-loop-i : goal.invariant-loop-i
invariant-loop-i l =
    NotFoundBelow l.rules.count (rule_gives (automaton_in l.tables) (as_result l.x) l.rules.body.now) l.i × Unchanged l.initial.edges l.edges × Unchanged l.initial.chosen l.chosen
    × StatesSmall (automaton_in l.tables)
