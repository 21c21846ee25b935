-- The results of a round while they are collected: sorted, each once, in the first rows of a table with room for so many.
-- Assumes nothing.
pub mod Laws
use Rattle.std.specs.Prelude.{ℕ, true, false, List, length, leb}
use Rattle.std.proofs.Math.Option.{Option, none, some}
use Rattle.words.specs.Order.{insert}
use Rattle.automata.specs.Derivation.{Result, result_key}
use Rattle.tables.specs.Rows.{rows_in}
use Rattle.tables.specs.Layouts.{result_row}

-- the results, where there is room for them
unfoldable pub limited : ℕ → List Result → Option (List Result)
limited room l = elim (leb (length l) room) [ true ↦ some l | false ↦ none ]

-- the results with x, where there was room and is room for x
unfoldable pub insert_within : ℕ → Result → Option (List Result) → Option (List Result)
insert_within room x none = none
insert_within room x (some l) = limited room (insert result_key x l)

-- The results that n rows of a table stand for. A number of rows above the room says that there was no room for them.
unfoldable pub pending_in : ℕ → ℕ → List ℕ → Option (List Result)
pending_in room n t = elim (leb n room) [ true ↦ some (rows_in result_row n t) | false ↦ none ]
