-- A table of a sound case that is small, and the tables that hold it.
-- Assumes nothing.
pub mod Laws
use Rattle.std.specs.Prelude.{ℕ, ◌+◌, ◌*◌, ◌≤◌, ◌<◌, ◌≡◌, length}
use mathlib.Core.List.{List, Memᴰ}
use Rattle.words.proofs.Sets.Laws.{All}
use Rattle.automata.specs.Automaton.{Automaton, Move, Edge, Entry}
use Rattle.services.specs.Memory.{entry_width}
use Rattle.tables.specs.declared.Table.{Table}
use Rattle.tables.specs.Held.{automaton_of}

-- what is asked of an automaton whose acceptance is worked out for 64 states
pub record AutomatonSmall (A : Automaton) : Type 0 where
  pub states_few : A.J + length A.entries ≤ 64
  pub inner_small : (e : Edge) → Memᴰ e A.inner → (e.state < 64) × (e.first < 64)
  pub controls_small : (e : Entry) → Memᴰ e A.entries → e.control < 64
  pub states_small : (m : Move) → Memᴰ m A.moves → m.state < 64
  pub final1_small : All A.final1 (λ r. r < 64)
  pub final2_small : All A.final2 (λ q. q < 64)

-- Three tables hold A, in their first rows.
pub record HoldsTable (A : Automaton) (z : Table) (inner entries moves : List ℕ) : Type 0 where
  pub is : automaton_of z inner entries moves ≡ A
  pub edges_lent : z.edges * 3 ≤ length inner
  pub entries_lent : z.entries * entry_width ≤ length entries
  pub moves_lent : z.moves * 5 ≤ length moves
