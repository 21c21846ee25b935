-- What is known of the table of the round before: what it gives is held.
-- Assumes nothing.
pub mod Laws
pub mod Known
use Rattle.std.specs.Prelude.{ℕ, ◌+◌, ◌≤◌, ◌<◌, true, false, ◌≡◌, List, length}
use Rattle.automata.specs.Automaton.{Automaton, move_at}
use Rattle.automata.specs.Derivation.{Result}
use Rattle.offers.specs.Offers.{AllHeld}
use Rattle.readings.specs.declared.Before.{Before}
use Rattle.readings.specs.declared.Goal.{Goal}
use Rattle.readings.specs.Before.{table_before, Settles}
use Rattle.premises.specs.declared.Source.{Source}
use Rattle.premises.specs.Premises.{source_gives}

-- The table of the round before is a part of this one, and its moves are of states that it had; before round 1 there was none. These
-- results, which it gives, are held.
pub record SettledBy (A : Automaton) (t : Before) (xs : List Result) : Type 0 where
  pub moves_before : t.moves ≤ length A.moves
  pub entries_before : t.entries ≤ length A.entries
  pub states_before : (i : ℕ) → i < t.moves → (move_at A i).state < A.J + t.entries
  pub none_before : t.new ≡ true → (t.moves ≡ 0) × (t.entries ≡ 0)
  pub held_before : t.new ≡ false → AllHeld A xs

-- What the premises from this source gave in the round before is held, and no newer move on the goal's symbol is one of a settled state.
pub record SourceHeld (A : Automaton) (to : Goal) (from : Source) : Type 0 where
  pub settled_by : SettledBy A to.before (source_gives to from (table_before to.before A))
  pub settles : Settles A to.before to.symbol
