-- The collecting of results: each is offered in turn, and kept unless it is held already or was kept before, as long as there is room.
-- Assumes nothing.
pub mod Laws
pub mod Again
pub mod Alike
use Rattle.std.specs.Prelude.{ℕ, ◌+◌, ◌*◌, ◌≤◌, Bool, true, false, ◌≡◌, ◌⊎◌, length}
use Rattle.std.proofs.Math.Option.{Option}
use mathlib.Core.List.{List, [], ◌∷◌, Memᴰ}
use Rattle.automata.specs.Automaton.{Automaton}
use Rattle.automata.specs.Derivation.{Result}
use Rattle.automata.specs.Saturation.{held}
use Rattle.tables.specs.declared.Table.{Table}
use Rattle.tables.specs.Held.{EntriesStand, MovesStand}
use Rattle.tables.specs.Pending.{insert_within, pending_in}
use Rattle.move_index.specs.Keys.{ByWords}

-- the results kept, with x unless it is to be left out
unfoldable pub offer : (Result → Bool) → ℕ → Option (List Result) → Result → Option (List Result)
offer leave room kept x = elim (leave x) [ true ↦ kept | false ↦ insert_within room x kept ]

-- the results kept, with all these
unfoldable pub offer_all : (Result → Bool) → ℕ → Option (List Result) → List Result → Option (List Result)
offer_all leave room kept [] = kept
offer_all leave room kept (x ∷ xs) = offer_all leave room (offer leave room kept x) xs

-- From n rows of table t of results to r rows of table t', the results xs of automaton A were offered.
pub record Collects (A : Automaton) (room n : ℕ) (t : List ℕ) (xs : List Result) (r : ℕ) (t' : List ℕ) : Type 0 where
  pub collected : pending_in room r t' ≡ offer_all (held A) room (pending_in room n t) xs
  pub number : r ≤ room + 1

-- The entries and moves stand in their slices, and the chains are those of all moves, by all their words: whether a result is held can be told.
pub record WordsIndexed (z : Table) (entries moves words : List ℕ) : Type 0 where
  pub entries_stand : EntriesStand z entries
  pub moves_stand : MovesStand z moves
  pub by_words : ByWords z.moves moves words

-- There is room for so many rows in table t, and it has at most one row more than that.
pub record Room (room n : ℕ) (t : List ℕ) : Type 0 where
  pub room_lent : room * 6 ≤ length t
  pub number : n ≤ room + 1

-- ---- results that need not be offered

-- All of these are held.
pub record AllHeld (A : Automaton) (xs : List Result) : Type 0 where
  pub all_held : (x : Result) → Memᴰ x xs → held A x ≡ true

-- Each of xs is held or one of ys.
pub record Covered (A : Automaton) (xs ys : List Result) : Type 0 where
  pub covered : (x : Result) → Memᴰ x xs → (held A x ≡ true) ⊎ Memᴰ x ys
