-- Chains of moves by rising number: element 1,023 - i is move i, so that the last element with a key is the least move with it.
-- Assumes nothing.
pub mod Laws
use Rattle.std.specs.Prelude.{ℕ, zero, suc, ◌+◌, ◌-◌, ◌<◌, true, false, ◌≡◌, List, [], eqb, ltb, Option, Some, None}
use Rattle.automata.specs.Automaton.{Automaton, Move, entry_control}
use Rattle.tables.specs.declared.Table.{Table}
use Rattle.tables.specs.Rows.{row_at}
use Rattle.tables.specs.Layouts.{move_row, entry_row}
use Rattle.tables.specs.Held.{table_of}
use Rattle.chains.specs.Chains.{Chained}
use Rattle.move_index.specs.Keys.{state_key, state_key_at}

-- the least of the numbers from i on, as many as are left, whose key is k; the number after them where there is none
unfoldable pub next_in : (ℕ → ℕ) → ℕ → ℕ → ℕ → ℕ
next_in key k i zero = i
next_in key k i (suc left) = elim (eqb (key i) k) [ true ↦ i | false ↦ next_in key k (suc i) left ]

-- the least number from i on whose key is k; 1,024 where there is none
unfoldable pub next_from : (ℕ → ℕ) → ℕ → ℕ → ℕ
next_from key k i = next_in key k i (1024 - i)

-- a number that is sought below 1,024, and 1,024 where there is none
abbrev pub number_of : Option ℕ → ℕ
number_of None = 1024
number_of (Some i) = i

-- the keys of the elements of chains, where move i has the key of number i
abbrev pub from_last : (ℕ → ℕ) → ℕ → ℕ
from_last key j = key (1023 - j)

-- These are the chains of 1,024 numbers with these keys.
abbrev pub Rising : (ℕ → ℕ) → List ℕ → Type 0
Rising key t = Chained (from_last key) 1024 t

-- These are chains.
pub record Rises (t : List ℕ) : Type 0 where
  pub key : ℕ → ℕ
  pub rising : Rising key t

-- These are the chains of the first n moves by state and symbol.
pub record StatesRise (n : ℕ) (moves t : List ℕ) : Type 0 where
  pub key : ℕ → ℕ
  pub rising : Rising key t
  pub key_is : (i : ℕ) → i < n → key i ≡ state_key_at moves i

-- the key of a move by the control of its entry and its symbol; that of a move of an inner state goes by 8, which no control is
unfoldable pub control_key : Automaton → Move → ℕ
control_key A m = elim (ltb m.state A.J) [ true ↦ state_key 8 m.symbol | false ↦ state_key (entry_control A m.state) m.symbol ]

abbrev pub control_key_at : Table → List ℕ → List ℕ → ℕ → ℕ
control_key_at z entries moves i = control_key (table_of z entries []) (row_at move_row moves i)

-- These are chains in which a move of an entry is found by the entry's control and the move's symbol.
pub record ControlsRise (z : Table) (entries moves t : List ℕ) : Type 0 where
  pub key : ℕ → ℕ
  pub rising : Rising key t
  pub key_is : (i e : ℕ) → i < z.moves → e < z.entries → (row_at move_row moves i).state ≡ z.inner1 + e
      → key i ≡ state_key (row_at entry_row entries e).control (row_at move_row moves i).symbol

-- The moves of a table are in the index: in chains by state and symbol, and in chains by control and symbol.
pub record MovesRise (z : Table) (entries moves states controls : List ℕ) : Type 0 where
  pub by_state : StatesRise z.moves moves states
  pub by_control : ControlsRise z entries moves controls
