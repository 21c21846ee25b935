-- The states for which a derivation chooses are below 64.
-- Assumes nothing.
use Rattle.std.specs.Prelude.{ℕ, ◌+◌, ◌*◌, ◌<◌, ◌≤◌, ◌^◌, ◌≡◌, get_or, ltb}
use Rattle.std.proofs.Math.Path.{refl, ap, sym, subst}
use Rattle.std.proofs.Common.{◌∙◌}
use Rattle.std.proofs.Math.Logic.{⊎_elim}
use mathlib.Core.List.Memᴰ
use mathlib.Core.List.{List, [], ◌∷◌, Memᴰ}
use native.Mathlib.Omega.{arith}
use Rattle.std.proofs.Math.ListN.{length, get_or-eq_default}
use borrow.Author.Tests.{ltb-true, ltb-false}
use Rattle.words.specs.Laws.Tests.{by_test}
use Rattle.words.specs.Laws.Options.{by_option}
use Rattle.words.specs.Sets.{single, members}
use Rattle.words.proofs.Sets.Laws.{Has, has_below, has_empty, single_has, join_cases, in_has}
use Rattle.words.specs.Lists.Laws.{get_elem?_some}
use Rattle.stacks.specs.Stack.{Operation, rewrite, push1, push2, copy, pop1, pop2, collapse1, collapse2}
use Rattle.automata.specs.Automaton.{Automaton, Move, Edge, Entry, no_move, no_edge, no_entry, edges, move_at, edge_at, entry_at, entry_set, entry_edge}
use Rattle.automata.specs.Automaton.Laws.{entry_at_some, entry_at_set, edge_at_inner, edge_cases, entry_edge_lem}
use Rattle.automata.specs.Derivation.{named}
use Rattle.services.specs.Memory.{entry_width}
use Rattle.tables.specs.declared.Table.{Table}
use Rattle.tables.specs.Rows.{row_at, rows_in}
use Rattle.tables.specs.Rows.Laws.{length_rows_in, get_or_rows_in}
use Rattle.tables.specs.Layouts.{move_row, entry_row, edge_row}
use Rattle.tables.specs.Held.{automaton_of, EdgesStand, EntriesStand}
use Rattle.tables.specs.Held.Laws.{none_set}
use Rattle.first_derivation.specs.Premises.{edge_states, read_states}
use Rattle.first_derivation.specs.Derived.{StatesSmall}

-- ---- of the tables that stand in slices of words

module _ (z : Table) (inner entries moves : List ℕ) where
  abbrev A : Automaton
  A = automaton_of z inner entries moves

  rest_small : ((j : ℕ) → get_or moves j 0 < 2 ^ 64) → (i : ℕ) → (move_at A i).R < 2 ^ 64
  unfolding move_at row_at
  rest_small words i =
      let len : length (rows_in move_row z.moves moves) ≡ z.moves = length_rows_in move_row z.moves moves in
      by_test (ltb i z.moves)
      (λ e. subst (λ (m : Move). m.R < 2 ^ 64) (sym (get_or_rows_in move_row z.moves moves i no_move (ltb-true i z.moves e))) (words (i * 5 + 4)))
      (λ e.
      let l : z.moves ≤ i = ltb-false i z.moves e in
      subst (λ (m : Move). m.R < 2 ^ 64) (sym (get_or-eq_default (rows_in move_row z.moves moves) no_move (omega arith))) (omega arith))

  set_small : ((j : ℕ) → get_or entries j 0 < 2 ^ 64) → (r : ℕ) → entry_set A r < 2 ^ 64
  unfolding row_at
  set_small words r =
      let len : length (rows_in entry_row z.entries entries) ≡ z.entries = length_rows_in entry_row z.entries entries in
      by_option (entry_at A r)
      (λ h. subst (λ (s : ℕ). s < 2 ^ 64) (sym (none_set A r h)) (omega arith))
      (λ x h.
      let (e, at, g) = entry_at_some A r h in
      let (l, is) = get_elem?_some (rows_in entry_row z.entries entries) e g in
      let row : row_at entry_row entries e ≡ x = sym (get_or_rows_in entry_row z.entries entries e no_entry (omega arith)) ∙ is no_entry in
      subst (λ (s : ℕ). s < 2 ^ 64) (ap (λ (y : Entry). y.S) row ∙ sym (entry_at_set A r h)) (words (e * entry_width + 1)))

  first_small : EdgesStand z inner → EntriesStand z entries → (e : ℕ) → (edge_at A e).first < 64
  unfolding edge_at
  first_small d h e =
      let few : z.inner1 + z.entries ≤ 64 = h.states_few in
      let len : length (rows_in entry_row z.entries entries) ≡ z.entries = length_rows_in entry_row z.entries entries in
      let lenI : length (rows_in edge_row z.edges inner) ≡ z.edges = length_rows_in edge_row z.edges inner in
      by_test (ltb e (length (edges A)))
      (λ t. ⊎_elim
      (λ (l : e < length (rows_in edge_row z.edges inner)).
      let below : e < z.edges = omega arith in
      subst (λ (x : Edge). x.first < 64) (sym (edge_at_inner A e l ∙ get_or_rows_in edge_row z.edges inner e no_edge below)) (d.firsts_small e below))
      (λ (k : (n : ℕ) × (n < length A.entries) × (e ≡ entry_edge A n)).
      let g = entry_edge_lem A (record { below = k.1; control_is = refl; set_is = refl }) in
      let b : k.0 < z.entries = omega arith in
      let s : (edge_at A e).first ≡ z.inner1 + k.0 = ap (λ (n : ℕ). (edge_at A n).first) k.2 ∙ g.first_is in
      omega arith)
      (edge_cases A e (ltb-true e (length (edges A)) t)))
      (λ t. subst (λ (x : Edge). x.first < 64) (sym (get_or-eq_default (edges A) no_edge (ltb-false e (length (edges A)) t))) (omega arith))

  pub states_small : EdgesStand z inner → EntriesStand z entries → ((j : ℕ) → get_or entries j 0 < 2 ^ 64) → ((j : ℕ) → get_or moves j 0 < 2 ^ 64) → StatesSmall A
  states_small d h es ms = record { rests_small = rest_small ms; sets_small = set_small es; firsts_small = first_small d h }

-- ---- the states of a derivation's choices

-- every state is below 64
abbrev pub Below : List ℕ → Type 0
Below qs = (q : ℕ) → Memᴰ q qs → q < 64

members_below : (s : ℕ) → s < 2 ^ 64 → Below (members s)
members_below s h q i = has_below 64 h (in_has s i)

module _ {A : Automaton} (small : StatesSmall A) where
  named_below : (es : List ℕ) (q : ℕ) → Has (named A es) q → q < 64
  unfolding named
  named_below [] q h = absurd (has_empty h)
  named_below (e ∷ es) q h = ⊎_elim
      (λ (k : Has (single (edge_at A e).first) q). subst (λ (n : ℕ). n < 64) (single_has k) (small.firsts_small e))
      (λ (k : Has (named A es) q). named_below es q k)
      (join_cases (single (edge_at A e).first) (named A es) h)

  none_below : Below []
  none_below q i = absurd (Memᴰ.not-nil i)

  pub edges_below : (op : Operation) (i : ℕ) → Below (edge_states A op i)
  unfolding edge_states
  edges_below (rewrite b) i = none_below
  edges_below (push1 b) i = none_below
  edges_below (push2 b) i = none_below
  edges_below copy i = members_below (entry_set A (move_at A i).state) (small.sets_small (move_at A i).state)
  edges_below pop1 i = none_below
  edges_below pop2 i = none_below
  edges_below collapse1 i = none_below
  edges_below collapse2 i = none_below

  pub reads_below : (op : Operation) (i : ℕ) (es : List ℕ) → Below (read_states A op i es)
  unfolding read_states
  reads_below (rewrite b) i es = none_below
  reads_below (push1 b) i es = members_below (move_at A i).R (small.rests_small i)
  reads_below (push2 b) i es = members_below (move_at A i).R (small.rests_small i)
  reads_below copy i es = λ q j. named_below es q (in_has (named A es) j)
  reads_below pop1 i es = none_below
  reads_below pop2 i es = none_below
  reads_below collapse1 i es = none_below
  reads_below collapse2 i es = none_below
