-- What is known from the round before: what its table gives is held, so only what is newer has to be looked at.
-- Assumes nothing.
pub mod Laws
use Rattle.std.specs.Prelude.{ℕ, ◌≤◌, ◌<◌, Bool, false, ◌≡◌, List, length}
use Rattle.words.proofs.Sets.Laws.{Has}
use Rattle.automata.specs.Automaton.{Automaton, move_at}
use Rattle.automata.specs.Derivation.{Result}
use Rattle.automata.specs.Saturation.{up_to}
use Rattle.offers.specs.Offers.{AllHeld}
use Rattle.readings.specs.declared.Before.{Before}
use Rattle.readings.specs.declared.Goal.{Goal}

-- the table of the round before
abbrev pub table_before : Before → Automaton → Automaton
table_before t A = up_to (record { moves = t.moves; entries = t.entries }) A

-- The table of the round before is no larger, and no move on symbol a of a state of `settled` is newer.
pub record Settles (A : Automaton) (t : Before) (a : ℕ) : Type 0 where
  pub moves_before : t.moves ≤ length A.moves
  pub entries_before : t.entries ≤ length A.entries
  pub settles : (i : ℕ) → t.moves ≤ i → i < length A.moves → (move_at A i).symbol ≡ a → Has t.settled (move_at A i).state → ⊥

-- Where nothing new was used so far, these are all held.
pub record Known (A : Automaton) (new : Bool) (xs : List Result) : Type 0 where
  pub known : new ≡ false → AllHeld A xs

-- What the table of the round before gives is held in A, where nothing new was used so far, and no newer move on the goal's symbol is one of a
-- settled state.
pub record HeldBefore (A : Automaton) (to : Goal) (new : Bool) (gives : Automaton → List Result) : Type 0 where
  pub settles : Settles A to.before to.symbol
  pub known : Known A new (gives (table_before to.before A))
