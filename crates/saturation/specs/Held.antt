-- The saturated table that tables and sizes hold.
-- Assumes nothing.
use Rattle.std.specs.Prelude.{ℕ, List}
use Rattle.automata.specs.Saturation.{Saturated}
use Rattle.tables.specs.declared.Table.{Table}
use Rattle.tables.specs.declared.view.Tables.{Tables}
use Rattle.tables.specs.Rows.{rows_in}
use Rattle.tables.specs.Held.{automaton_of}
use Rattle.saturation.specs.declared.after_rounds.AfterRounds.{AfterRounds}
use Rattle.saturation.specs.Layout.{size_row}

-- the table, with its first k sizes
abbrev pub saturated_in : Table → List ℕ → List ℕ → List ℕ → ℕ → List ℕ → Saturated
saturated_in z inner entries moves k sizes = record { table = automaton_of z inner entries moves; sizes = rows_in size_row k sizes }

-- the same by the tables as one value
abbrev pub saturated_on : Tables → ℕ → List ℕ → Saturated
saturated_on t k sizes = saturated_in t.table t.inner.now t.entries.now t.moves.now k sizes

-- the same by the tables after rounds as one value
abbrev pub saturated_by : AfterRounds → Saturated
saturated_by r = saturated_on r.tables r.count r.sizes.now
