-- What one entry gives by a rule.
-- Assumes nothing.
use Rattle.std.specs.Prelude.{ℕ, ◌+◌, List, [], ◌∷◌, eqb}
use Rattle.words.specs.Lists.{when}
use Rattle.automata.specs.Automaton.{Automaton, Entry}
use Rattle.automata.specs.Derivation.{Result}
use Rattle.results.specs.declared.EntryUse.{EntryUse}
use Rattle.results.specs.Rules.{entry_result}

-- what entry e, of number i, gives, where its control is q
unfoldable pub entry_step : Automaton → ℕ → ℕ → EntryUse → ℕ → ℕ → Entry → List Result
entry_step A p a k q i e = when (eqb e.control q) (entry_result p a k e.S (A.J + i) ∷ [])
