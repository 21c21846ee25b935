-- The edges of one state.
-- Assumes nothing.
pub mod Laws
pub mod Collected
use Rattle.std.specs.Prelude.{ℕ, Bool, eqb}
use Rattle.automata.specs.Automaton.{Edge}

-- ---- edges of one state

-- an edge of state q
abbrev pub edges_test : ℕ → Edge → Bool
edges_test q e = eqb e.state q
