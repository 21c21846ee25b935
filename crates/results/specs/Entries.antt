-- The entries that a rule uses.
-- Assumes nothing.
pub mod Laws
use Rattle.std.specs.Prelude.{ℕ, ◌+◌, ◌≤◌, ◌<◌, Bool, true, ◌≡◌, [], ◌∷◌, length, get_or, eqb}
use Rattle.automata.specs.Automaton.{Automaton, Entry, no_entry, entry_set}
use Rattle.offers.specs.Offers.{AllHeld}
use Rattle.results.specs.declared.EntryUse.{EntryUse}
use Rattle.results.specs.Rules.{entry_result}

-- an entry of control q
abbrev pub entry_test : ℕ → Entry → Bool
entry_test q e = eqb e.control q

-- What the entries of control q below number `first` give is held.
pub record EntriesKnown (A : Automaton) (p a : ℕ) (k : EntryUse) (q first : ℕ) : Type 0 where
  pub within : first ≤ length A.entries
  pub known : (i : ℕ) → i < first → entry_test q (get_or A.entries i no_entry) ≡ true → AllHeld A (entry_result p a k (entry_set A (A.J + i)) (A.J + i) ∷ [])
