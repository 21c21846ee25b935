-- The moves of a control's entries, entry by entry along chains.
-- Assumes nothing.
pub mod Laws
use Rattle.std.specs.Prelude.{ℕ, ◌+◌, ◌≤◌, ◌<◌, Bool, ◌≡◌, List, length, get_or, eqb}
use Rattle.words.specs.Lists.{each, when, places}
use Rattle.automata.specs.Automaton.{Automaton, Move, Entry, no_entry, move_at}
use Rattle.automata.specs.Derivation.{Result}
use Rattle.move_index.specs.Keys.{state_key}
use Rattle.offers.specs.Offers.Alike.{Gathered}
use Rattle.readings.specs.declared.Goal.{Goal}
use Rattle.premises.specs.declared.MoveUse.{MoveUse}
use Rattle.premises.specs.declared.Source.{Source}
use Rattle.premises.specs.Steps.{move_step}

-- a move on the chain of state r and symbol b
abbrev pub chain_test : ℕ → ℕ → Move → Bool
chain_test r b m = eqb (state_key m.state m.symbol) (state_key r b)

-- an entry of control q
abbrev pub control_entry : ℕ → Entry → Bool
control_entry q e = eqb e.control q

module _ (A : Automaton) (p a : ℕ) (k : MoveUse) (b q : ℕ) where
  -- what move i gives
  unfoldable pub step_at : ℕ → List Result
  step_at i = move_step A p a k b q (move_at A i)

  -- what the moves on the chain of entry number e and symbol b give
  unfoldable pub chain_results : ℕ → List Result
  chain_results e = each (places (chain_test (A.J + e) b) A.moves) step_at

  -- the same, where the entry's control is q
  unfoldable pub entry_moves : ℕ → List Result
  entry_moves e = when (control_entry q (get_or A.entries e no_entry)) (chain_results e)

  -- what a move from number c on that is on the chain gives
  abbrev pub OnFrom : ℕ → ℕ → List Result → Type 0
  OnFrom r c xs = (i : ℕ) × (c ≤ i) × (i < length A.moves) × (state_key (move_at A i).state (move_at A i).symbol ≡ state_key r b) × (xs ≡ step_at i)

  -- What the moves from number c on that are on the chain give was offered.
  abbrev pub ChainDownTo : ℕ → ℕ → ℕ → List ℕ → ℕ → ℕ → List ℕ → Type 0
  ChainDownTo e room n t c r t' = Gathered A room n t (chain_results e) (OnFrom (A.J + e) c) r t'

-- in the code: what the moves of entry e give, where they come from this source
abbrev pub entry_gives : Goal → Source → ℕ → Automaton → List Result
entry_gives to from e A = entry_moves A to.control to.symbol from.kind from.symbol from.control e
