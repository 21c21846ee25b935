-- What a round finds prepared: the index of the moves, what the table of the round before gives, the memo table.
-- Assumes nothing.
pub mod Laws
use Rattle.std.specs.Prelude.{ℕ, true, false, ◌≡◌, List}
use Rattle.stacks.specs.System.{Rule}
use Rattle.automata.specs.Saturation.{results}
use Rattle.tables.specs.declared.Table.{Table}
use Rattle.tables.specs.Held.{automaton_of}
use Rattle.move_index.specs.Keys.{ByState, ByWords}
use Rattle.readings.specs.Memo.{MemoBefore}
use Rattle.readings.specs.declared.Before.{Before}
use Rattle.readings.specs.Before.{table_before}
use Rattle.premises.specs.Settled.{SettledBy}
use Rattle.added_results.specs.Adding.{StatesExist}

-- what is known in round 1
abbrev pub none_before : Before
none_before = record { new = true; moves = 0; entries = 0; settled = 0 }

-- and in the round after that which left table z
abbrev pub round_before : Table → Before
round_before z = record { new = false; moves = z.moves; entries = z.entries; settled = 0 }

-- Before a round: all results of the table of the round before, t, are held, its moves are indexed, and no row of the memo table is of this
-- round.
pub record Prepared (rules : List Rule) (inner : List ℕ) (z : Table) (entries moves : List ℕ) (t : Before) (states words memo : List ℕ) : Type 0 where
  pub states_exist : StatesExist (automaton_of z inner entries moves)
  pub settled : SettledBy (automaton_of z inner entries moves) t (results rules (table_before t (automaton_of z inner entries moves)))
  pub by_state : ByState t.moves moves states
  pub by_words : ByWords t.moves moves words
  pub memo_before : MemoBefore z.moves memo
  pub none_settled : t.settled ≡ 0
