-- What a move of an entry gives as the premise of a rule, and all such premises of an operation.
-- Assumes nothing.
use Rattle.std.specs.Prelude.{ℕ, Bool, ◌||◌, List, [], ◌∷◌, eqb}
use Rattle.words.specs.Sets.{join, members}
use Rattle.words.specs.Lists.{each, when}
use Rattle.automata.specs.Automaton.{Automaton, Move, move_at, entry_set}
use Rattle.automata.specs.Derivation.{Result, no_joins, joins_of, control_moves}
use Rattle.readings.specs.Readings.{result_to, read_results, edge_results}
use Rattle.readings.specs.declared.Goal.{Goal}
use Rattle.premises.specs.declared.MoveUse.{MoveUse}
use Rattle.premises.specs.declared.MoveUse.TheVariants.{Rewritten, Pushed1, Pushed2, Copied}
use Rattle.premises.specs.declared.Source.{Source}

-- B is empty or of this order
abbrev pub order_fits : ℕ → Move → Bool
order_fits k m = eqb m.order 0 || eqb m.order k

module _ (A : Automaton) (p a : ℕ) where
  -- what move m of an entry [p',S] gives
  unfoldable pub premise_results : MoveUse → ℕ → Move → List Result
  premise_results Rewritten S m = result_to p a S (joins_of m) ∷ []
  premise_results Pushed1 S m = when (order_fits 1 m) (read_results A p a S (members m.R) (record { order = 0; B = 0; R = m.B }))
  premise_results Pushed2 S m = when (order_fits 2 m) (read_results A p a (join S m.B) (members m.R) no_joins)
  premise_results Copied S m = edge_results A p a (joins_of m) (members S) 0 0

  -- what the moves on b of the entries of control q give
  unfoldable pub moves_results : MoveUse → ℕ → ℕ → List Result
  moves_results k b q = each (control_moves A q b) (λ i. premise_results k (entry_set A (move_at A i).state) (move_at A i))

-- ---- in the code

abbrev pub premise_gives : Goal → MoveUse → ℕ → Move → Automaton → List Result
premise_gives to k S m A = premise_results A to.control to.symbol k S m

abbrev pub source_gives : Goal → Source → Automaton → List Result
source_gives to from A = moves_results A to.control to.symbol from.kind from.symbol from.control
