-- Joins in the code, as the joins of the definition.
-- Assumes nothing.
pub mod Laws
use Rattle.std.specs.Prelude.{ℕ, true, false, ◌&&◌, eqb, Some, None, Option as Answer}
use Rattle.std.proofs.Math.Option.{Option, none, some}
use Rattle.automata.specs.Automaton.{Move}
use Rattle.automata.specs.Derivation.{Joins, join_move}
use Rattle.joins.specs.declared.Joins.{Joins as JoinWords}

abbrev pub the_joins : ℕ → ℕ → ℕ → Joins
the_joins order b r = record { order = order; B = b; R = r }

abbrev pub as_joins : JoinWords → Joins
as_joins j = the_joins j.order j.b j.r

abbrev pub as_joined : Answer JoinWords → Option Joins
as_joined None = none
as_joined (Some j) = some (as_joins j)

-- the joins with move m, where it is one of state q on symbol a
unfoldable pub candidate_of : ℕ → ℕ → Joins → Move → Option Joins
candidate_of q a j m = elim (eqb m.state q && eqb m.symbol a) [ true ↦ join_move j m | false ↦ none ]
