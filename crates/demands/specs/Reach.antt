-- A configuration reaches the target by a finite run: in document 01's words, and in the published ones; a start's round and its word after a
-- number of rounds; and the rounds that add a move.
-- Assumes nothing.
pub mod Laws
use Rattle.std.specs.Prelude.{ℕ, suc, ◌<◌, Bool, true, false, ◌≡◌, ◌↔◌, List, map, length}
use Rattle.stacks.specs.System.{Configuration, Rule, Run}
use Rattle.stacks.specs.Published.{Transitions, published_rule}
use Rattle.replies.specs.Numbers.{open_word}
use Rattle.automata.specs.Automaton.{Automaton}
use Rattle.automata.specs.Acceptance.{accepts2, in_target}
use Rattle.automata.specs.Saturation.{table_after}
use Rattle.files.specs.Case.{own_of, rules_of}
use Rattle.files.specs.Start.{configuration_at}

-- a finite run of the rules leads from c into the target of the own automaton
pub record Reaches (rules : List Rule) (own : Automaton) (c : Configuration) : Type 0 where
  pub trace : List ℕ
  pub end : Configuration
  pub run : Run rules c trace end
  pub in_target_holds : in_target own end ≡ true

-- the same by transitions of the published system
pub record PublishedReaches (rules : List Rule) (own : Automaton) (c : Configuration) : Type 0 where
  pub end : Configuration
  pub transitions : Transitions (map published_rule rules) c end
  pub in_target_holds : in_target own end ≡ true

-- ---- the starts of a start file

-- a finite run of the case's rules, as document 001 publishes them, leads from start n into the target
abbrev pub Runs : List ℕ → List ℕ → ℕ → Type 0
Runs case start n = PublishedReaches (rules_of case) (own_of case) (configuration_at start n)

-- the case's table after so many rounds
abbrev pub round_table : List ℕ → ℕ → Automaton
round_table case m = table_after (rules_of case) (own_of case) m

-- it accepts start n
abbrev pub accepted_in : List ℕ → List ℕ → ℕ → ℕ → Bool
accepted_in case start n m = accepts2 (round_table case m) (configuration_at start n).stack (configuration_at start n).control

-- "The least round whose table already accepts it": start n is won in round r.
pub record WonIn (case start : List ℕ) (n r : ℕ) : Type 0 where
  pub accepts : accepted_in case start n r ≡ true
  pub least : (m : ℕ) → m < r → accepted_in case start n m ≡ false

-- ---- rounds

-- "Round n + 1 would add a move", n being m,
abbrev pub AddsMove : List ℕ → ℕ → Type 0
AddsMove case m = length (round_table case m).moves < length (round_table case (suc m)).moves

-- or there is "nothing left to add" after m rounds.
abbrev pub AddsNothing : List ℕ → ℕ → Type 0
AddsNothing case m = length (round_table case (suc m)).moves ≡ length (round_table case m).moves

-- All rounds that add a move: the first m do, and the next one does not.
pub record RoundsThatAdd (case : List ℕ) (m : ℕ) : Type 0 where
  pub each_adds : (k : ℕ) → k < m → AddsMove case k
  pub then_nothing : AddsNothing case m

-- ---- words

-- a word that says yes: neither no, 0, nor open, 65535
abbrev pub Yes : ℕ → Type 0
Yes word = (word ≡ 0 → ⊥) × (word ≡ open_word → ⊥)

-- The word of start n, judged in so many rounds. "Yes means accepted after at most n rounds. No means not accepted and nothing left to add. Open
-- means not accepted while round n + 1 would add a move." Yes is written as the round in which the start was won, plus 1. "A run exists for each
-- yes, none for each no, and open promises neither": so where nothing is left to add, a start is marked yes exactly if there is a run.
pub record Marks (case start : List ℕ) (rounds n word : ℕ) : Type 0 where
  pub yes : Yes word ↔ (accepted_in case start n rounds ≡ true)
  pub no_left : (word ≡ 0) ↔ ((accepted_in case start n rounds ≡ false) × AddsNothing case rounds)
  pub is_open : (word ≡ open_word) ↔ ((accepted_in case start n rounds ≡ false) × AddsMove case rounds)
  pub round : Yes word → (r : ℕ) → (word ≡ suc r) ↔ WonIn case start n r
  pub run : Yes word → Runs case start n
  pub no_run_holds : word ≡ 0 → Runs case start n → ⊥
  pub exactly : AddsNothing case rounds → Yes word ↔ Runs case start n
