-- The facts that a sound case gives: of its rules and its own automaton, and of every table that rounds make of it. Theorems are stated
-- for any automaton with these facts.
-- Assumes nothing.
pub mod Laws
use Rattle.std.specs.Prelude.{ℕ, zero, suc, ◌+◌, ◌≤◌, ◌<◌, true, ◌≡◌, length, get_or}
use mathlib.Core.List.{List, ◌++◌, Memᴰ}
use Rattle.words.proofs.Sets.Laws.{All}
use Rattle.words.specs.Order.{rising}
use Rattle.stacks.specs.System.{Rule}
use Rattle.automata.specs.Automaton.{Automaton, Move, Edge, Entry, no_entry, choice_key, entry_key}
use Rattle.automata.specs.Derivation.{Derivation, derivations}
use Rattle.automata.specs.Saturation.{held}

-- Of a rule, where there are P controls: its controls exist.
pub record RuleFacts (P : ℕ) (ρ : Rule) : Type 0 where
  pub control_exists : ρ.control < P
  pub next_exists : ρ.next < P

-- Of an inner edge: it leads from an inner order-2 state to an inner order-1 state and inner states.
pub record InnerFacts (P J : ℕ) (e : Edge) : Type 0 where
  pub from_inner : P ≤ e.state
  pub to_inner : e.first < J
  pub set_inner : All e.S (λ q. P ≤ q)

-- Of a move, where there are n order-1 states: its state exists, and B is empty exactly at order 0.
pub record MoveFacts (n : ℕ) (m : Move) : Type 0 where
  pub state_exists : m.state < n
  pub order_small : m.order ≤ 2
  pub none_empty : m.order ≡ 0 → m.B ≡ 0
  pub empty_none : m.B ≡ 0 → m.order ≡ 0

-- the number of order-1 states
abbrev pub states : Automaton → ℕ
states A = A.J + length A.entries

-- each entry is there once
abbrev pub Once : List Entry → Type 0
Once es = (i j : ℕ) → i < length es → j < length es → entry_key (get_or es i no_entry) ≡ entry_key (get_or es j no_entry) → i ≡ j

-- Of any table, where there are P controls.
pub record TableFacts (P : ℕ) (A : Automaton) : Type 0 where
  pub final1_exists : All A.final1 (λ r. r < states A)
  pub inner_facts : (e : Edge) → Memᴰ e A.inner → InnerFacts P A.J e
  pub inner_rising : rising choice_key A.inner ≡ true
  pub entry_control_holds : (e : Entry) → Memᴰ e A.entries → e.control < P
  pub entry_once : Once A.entries
  pub move_facts : (m : Move) → Memᴰ m A.moves → MoveFacts (states A) m

-- Of an own automaton: the sets of round 0 are inner.
pub record OwnFacts (P : ℕ) (A : Automaton) : Type 0 where
  pub entry_inner : (e : Entry) → Memᴰ e A.entries → All e.S (λ q. P ≤ q)
  pub rest_inner : (m : Move) → Memᴰ m A.moves → All m.R (λ r. r < A.J)
  pub annotation1_inner : (m : Move) → Memᴰ m A.moves → m.order ≡ 1 → All m.B (λ r. r < A.J)
  pub annotation2_inner : (m : Move) → Memᴰ m A.moves → m.order ≡ 2 → All m.B (λ q. P ≤ q)

-- ---- what is named exists, where there are Q order-2 states and K symbols

-- the number of states of order k, where there are n of order 1; there are none of order 0
abbrev pub of_order : ℕ → ℕ → ℕ → ℕ
of_order Q n zero = 0
of_order Q n (suc zero) = n
of_order Q n (suc (suc k)) = Q

-- Of a rule.
pub record RuleBounded (Q K : ℕ) (ρ : Rule) : Type 0 where
  pub symbol_below : ρ.symbol < K
  pub next_below : ρ.next < Q

-- Of a move, where there are n order-1 states.
pub record MoveBounded (Q K n : ℕ) (m : Move) : Type 0 where
  pub symbol_below : m.symbol < K
  pub annotation_below : All m.B (λ q. q < of_order Q n m.order)
  pub rest_below : All m.R (λ r. r < n)

-- Of any table.
pub record Bounded (Q K : ℕ) (A : Automaton) : Type 0 where
  pub inner_below : (e : Edge) → Memᴰ e A.inner → All e.S (λ q. q < Q)
  pub entry_below : (e : Entry) → Memᴰ e A.entries → All e.S (λ q. q < Q)
  pub move_below : (m : Move) → Memᴰ m A.moves → MoveBounded Q K (states A) m

-- ---- extension and closedness

-- A has all that `own` has, under the same numbers, and more entries and moves after it.
pub record Extends (own A : Automaton) : Type 0 where
  pub same_J : A.J ≡ own.J
  pub same_final1 : A.final1 ≡ own.final1
  pub same_final2 : A.final2 ≡ own.final2
  pub same_inner : A.inner ≡ own.inner
  pub more_entries : List Entry
  pub entries_are : A.entries ≡ own.entries ++ more_entries
  pub more_moves : List Move
  pub moves_are : A.moves ≡ own.moves ++ more_moves

-- The automaton holds every result of the rules: it is closed under saturation.
pub record Closed (rules : List Rule) (A : Automaton) : Type 0 where
  pub closed : (d : Derivation) → Memᴰ d (derivations A rules) → held A d.result ≡ true
