-- What one move gives by a rule.
-- Assumes nothing.
pub mod Laws
use Rattle.std.specs.Prelude.{ℕ, ◌&&◌, List, eqb}
use Rattle.words.specs.Lists.{when}
use Rattle.automata.specs.Automaton.{Automaton, Move, entry_of, entry_set}
use Rattle.automata.specs.Derivation.{Result}
use Rattle.readings.specs.declared.Goal.{Goal}
use Rattle.premises.specs.declared.MoveUse.{MoveUse}
use Rattle.premises.specs.declared.Source.{Source}
use Rattle.premises.specs.Premises.{premise_results}

module _ (A : Automaton) (p a : ℕ) where
  -- what move m gives, where it is one on b of an entry of control q
  unfoldable pub move_step : MoveUse → ℕ → ℕ → Move → List Result
  move_step k b q m = when (eqb m.symbol b && entry_of A q m.state) (premise_results A p a k (entry_set A m.state) m)

-- in the code: what move m gives, where it comes from this source
abbrev pub move_gives : Goal → Source → Move → Automaton → List Result
move_gives to from m A = move_step A to.control to.symbol from.kind from.symbol from.control m
