-- What the operation of a rule uses.
-- Assumes nothing.
pub mod Laws
use Rattle.std.specs.Prelude.{ℕ, List, [], ◌∷◌}
use Rattle.words.specs.Sets.{single}
use Rattle.stacks.specs.Stack.{Operation, rewrite, push1, push2, copy, pop1, pop2, collapse1, collapse2}
use Rattle.automata.specs.Automaton.{Automaton}
use Rattle.automata.specs.Derivation.{Result}
use Rattle.tables.specs.Records.{as_result}
use Rattle.readings.specs.Readings.{the_result}
use Rattle.premises.specs.declared.MoveUse.TheVariants.{Rewritten, Pushed1, Pushed2, Copied}
use Rattle.results.specs.declared.EntryUse.TheVariants.{Popped, Collapsed}
use Rattle.readings.specs.declared.Goal.{Goal}
use Rattle.results.specs.declared.Use.{Use}
use Rattle.results.specs.declared.Use.TheVariants.{Moves, Entries, Nothing}
use Rattle.premises.specs.Premises.{moves_results}
use Rattle.results.specs.Rules.{entries_results}

-- what an operation uses, in a rule of control p and symbol a that goes to control q
unfoldable pub use_of : ℕ → ℕ → ℕ → Operation → Use
use_of p a q (rewrite b) = Moves Rewritten b
use_of p a q (push1 b) = Moves Pushed1 b
use_of p a q (push2 b) = Moves Pushed2 b
use_of p a q copy = Moves Copied a
use_of p a q pop1 = Entries Popped
use_of p a q pop2 = Nothing (the_result p (single q) a 0 0 0)
use_of p a q collapse1 = Entries Collapsed
use_of p a q collapse2 = Nothing (the_result p 0 a 2 (single q) 0)

-- what it gives
unfoldable pub use_results : Automaton → ℕ → ℕ → ℕ → Use → List Result
use_results A p a q (Moves k b) = moves_results A p a k b q
use_results A p a q (Entries k) = entries_results A p a k q
use_results A p a q (Nothing x) = as_result x ∷ []

-- the same in the code
abbrev pub use_gives : Goal → ℕ → Use → Automaton → List Result
use_gives to q u A = use_results A to.control to.symbol q u
