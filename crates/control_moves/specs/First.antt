-- Which premises have to be looked at, by what the last round added.
-- Assumes nothing.
use Rattle.std.specs.Prelude.{ℕ, ◌≤◌, ◌<◌, Bool, true, false, ◌||◌, length}
use mathlib.Core.List.{Memᴰ}
use Rattle.automata.specs.Automaton.{Automaton, move_at, entry_set}
use Rattle.automata.specs.Derivation.{control_moves}
use Rattle.offers.specs.Offers.{AllHeld}
use Rattle.readings.specs.declared.Goal.{Goal}
use Rattle.premises.specs.declared.MoveUse.{MoveUse}
use Rattle.premises.specs.declared.MoveUse.TheVariants.{Rewritten, Pushed1, Pushed2, Copied}
use Rattle.premises.specs.declared.Source.{Source}
use Rattle.premises.specs.Premises.{premise_gives}

-- An old premise can give something new: a push where there is a newer move on the symbol that it reads, a copy also where there is a
-- newer entry.
unfoldable pub reads_new : MoveUse → Bool → Bool → Bool
reads_new Rewritten moves entries = false
reads_new Pushed1 moves entries = moves
reads_new Pushed2 moves entries = moves
reads_new Copied moves entries = moves || entries

-- the first newer premise, which is number `old`, where there is one, or none of the n moves
unfoldable pub first_move : Bool → ℕ → ℕ → ℕ
first_move premises old n = elim premises [ true ↦ old | false ↦ n ]

-- the same goal, with these settled states
abbrev pub settled_on : Goal → ℕ → Goal
settled_on to s =
    record { control = to.control; symbol = to.symbol; room = to.room; before = record { new = to.before.new; moves = to.before.moves; entries = to.before.entries; settled = s } }

-- What the premises below number `first` from this source give is held.
pub record HeldBelow (A : Automaton) (to : Goal) (from : Source) (first : ℕ) : Type 0 where
  pub within : first ≤ length A.moves
  pub below : (i : ℕ) → i < first → Memᴰ i (control_moves A from.control from.symbol) → AllHeld A (premise_gives to from.kind (entry_set A (move_at A i).state) (move_at A i) A)
