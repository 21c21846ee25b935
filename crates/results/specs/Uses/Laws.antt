-- What a rule gives by its use is what its operation gives.
-- Assumes nothing.
use Rattle.std.specs.Prelude.{ℕ, ◌+◌, ◌≡◌, refl}
use Rattle.std.proofs.Math.Path.{ap, sym, subst}
use Rattle.std.proofs.Common.{◌∙◌, arith, get_or-take}
use Rattle.std.proofs.Math.Option.{Option, none, some}
use mathlib.Core.List.{List, [], ◌∷◌, Memᴰ}
use Rattle.std.proofs.Math.ListN.{length}
use Rattle.words.specs.Lists.Laws.{each_in, places_in}
use Rattle.words.specs.Sets.{single}
use Rattle.stacks.specs.Stack.{Operation, rewrite, push1, push2, copy, pop1, pop2, collapse1, collapse2}
use Rattle.stacks.specs.System.{Rule}
use Rattle.automata.specs.Automaton.{Automaton, Entry, no_entry, entry_at, entry_set}
use Rattle.automata.specs.Facts.Laws.{entry_at_same}
use Rattle.automata.specs.Saturation.{up_to}
use Rattle.automata.proofs.Saturation.Laws.{up_to_extends}
use Rattle.automata.specs.Derivation.{control_entries}
use Rattle.case_records.specs.declared.Operation as case
use Rattle.case_records.specs.declared.Operation.TheVariants.{Pop2, Collapse2}
use Rattle.case_records.specs.Values.{the_operation}
use Rattle.tables.specs.declared.Result.{Result as ResultWords}
use Rattle.tables.specs.declared.Table.{Table}
use Rattle.tables.specs.Held.{automaton_of, table_of}
use Rattle.tables.specs.Records.{as_result}
use Rattle.offers.specs.Offers.{AllHeld}
use Rattle.readings.specs.Readings.Inner.{all_held_edges}
use Rattle.readings.specs.Readings.{the_result}
use Rattle.results.specs.declared.EntryUse.{EntryUse}
use Rattle.results.specs.declared.Use.{Use}
use Rattle.results.specs.declared.Use.TheVariants.{Moves, Entries, Nothing}
use Rattle.readings.specs.declared.Before.{Before}
use Rattle.readings.specs.Before.{table_before, Known}
use Rattle.premises.specs.declared.MoveUse.{MoveUse}
use Rattle.premises.specs.Premises.{moves_results}
use Rattle.premises.specs.Settled.{SettledBy}
use Rattle.premises.specs.Settled.Laws.{length_entries, old_entry_known}
use Rattle.results.specs.Rules.{entry_result, entries_results, operation_results, rule_results}
use Rattle.results.specs.Entries.{entry_test, EntriesKnown}
use Rattle.results.specs.Uses.{use_of, use_results}

pub use_results_lem : (A : Automaton) (p a q : ℕ) (op : Operation) → use_results A p a q (use_of p a q op) ≡ operation_results A p a op q
unfolding use_results use_of operation_results
use_results_lem A p a q (rewrite b) = refl
use_results_lem A p a q (push1 b) = refl
use_results_lem A p a q (push2 b) = refl
use_results_lem A p a q copy = refl
use_results_lem A p a q pop1 = refl
use_results_lem A p a q pop2 = refl
use_results_lem A p a q collapse1 = refl
use_results_lem A p a q collapse2 = refl

-- ---- the arms of the code's match

module _ (p a q : ℕ) (x : case.Operation) where
  pub use_is : (y : case.Operation) → x ≡ y → use_of p a q (the_operation y) ≡ use_of p a q (the_operation x)
  use_is y e = ap (λ (o : case.Operation). use_of p a q (the_operation o)) (sym e)

  pub use_pop2 : (p' a' : ℕ) (o : ResultWords) (bit : ℕ) → x ≡ Pop2 → bit ≡ single q → p' ≡ p → a' ≡ a → o ≡ the_result p' bit a' 0 0 0 → Nothing o ≡ use_of p a q (the_operation x)
  unfolding use_of
  use_pop2 p' a' o bit e f ep ea g = ap Nothing (g ∙ rw (ep, ea, f) refl) ∙ use_is Pop2 e

  pub use_collapse2 : (p' a' : ℕ) (o : ResultWords) (bit : ℕ) → x ≡ Collapse2 → bit ≡ single q → p' ≡ p → a' ≡ a → o ≡ the_result p' 0 a' 2 bit 0 → Nothing o ≡ use_of p a q (the_operation x)
  unfolding use_of
  use_collapse2 p' a' o bit e f ep ea g = ap Nothing (g ∙ rw (ep, ea, f) refl) ∙ use_is Collapse2 e

module _ (p a q : ℕ) (u : Use) where
  pub uses_moves : (A : Automaton) (k : MoveUse) (b : ℕ) → u ≡ Moves k b → moves_results A p a k b q ≡ use_results A p a q u
  unfolding use_results
  uses_moves A k b e = sym (ap (use_results A p a q) e)

  -- entries do not depend on the inner edges
  pub uses_entries : (z : Table) (inner entries moves : List ℕ) (k : EntryUse) → u ≡ Entries k → entries_results (table_of z entries moves) p a k q ≡ use_results (automaton_of z inner entries moves) p a q u
  unfolding use_results entries_results control_entries entry_set entry_at
  uses_entries z inner entries moves k e = sym (ap (use_results (automaton_of z inner entries moves) p a q) e)

  pub uses_nothing : (A : Automaton) (x : ResultWords) → u ≡ Nothing x → as_result x ∷ [] ≡ use_results A p a q u
  unfolding use_results
  uses_nothing A x e = sym (ap (use_results A p a q) e)

pub rule_used : (A : Automaton) (ρ : Rule) (u : Use) → u ≡ use_of ρ.control ρ.symbol ρ.next ρ.operation
    → use_results A ρ.control ρ.symbol ρ.next u ≡ rule_results A ρ
unfolding rule_results
rule_used A ρ u e = ap (use_results A ρ.control ρ.symbol ρ.next) e ∙ use_results_lem A ρ.control ρ.symbol ρ.next ρ.operation

-- ---- what the table of the round before gives by a use

pub settled_use : (A : Automaton) (t : Before) (ρ : Rule) (u : Use) → u ≡ use_of ρ.control ρ.symbol ρ.next ρ.operation → SettledBy A t (rule_results (table_before t A) ρ)
    → SettledBy A t (use_results (table_before t A) ρ.control ρ.symbol ρ.next u)
unfolding rule_results
settled_use A t ρ u e s =
    subst (SettledBy A t)
    (sym (ap (use_results (table_before t A) ρ.control ρ.symbol ρ.next) e ∙ use_results_lem (table_before t A) ρ.control ρ.symbol ρ.next ρ.operation)) s

module _ (z : Table) (inner entries moves : List ℕ) (t : Before) (p a q : ℕ) (u : Use)
    (s : SettledBy (automaton_of z inner entries moves) t (use_results (table_before t (automaton_of z inner entries moves)) p a q u)) where
  pub settled_moves : (k : MoveUse) (b : ℕ) → u ≡ Moves k b
      → SettledBy (automaton_of z inner entries moves) t (moves_results (table_before t (automaton_of z inner entries moves)) p a k b q)
  unfolding use_results
  settled_moves k b e = subst (λ (v : Use). SettledBy (automaton_of z inner entries moves) t (use_results (table_before t (automaton_of z inner entries moves)) p a q v)) e s

  pub settled_nothing : (x : ResultWords) → u ≡ Nothing x → Known (table_of z entries moves) t.new (as_result x ∷ [])
  unfolding use_results
  settled_nothing x e =
      record {
        known = λ h. all_held_edges z inner entries moves (as_result x ∷ [])
            (subst (λ (v : Use). AllHeld (automaton_of z inner entries moves) (use_results (table_before t (automaton_of z inner entries moves)) p a q v)) e (s.held_before h));
      }

  pub settled_entries : (k : EntryUse) → u ≡ Entries k → EntriesKnown (table_of z entries moves) p a k q t.entries
  unfolding use_results entries_results control_entries entry_set entry_at up_to
  settled_entries k e =
      record {
        within = s.entries_before;
        known = λ i l h.
            let A : Automaton = automaton_of z inner entries moves in
            let E : Automaton = table_before t A in
            let n : length E.entries ≡ t.entries = length_entries A t s in
            let there : Memᴰ i (control_entries E q) =
            places_in (entry_test q) E.entries no_entry i (omega arith) (ap (entry_test q) (get_or-take t.entries A.entries i no_entry l) ∙ h) in
            let set : entry_set A (A.J + i) ≡ entry_set E (A.J + i) =
            ap (λ (o : Option Entry). elim o [ none ↦ 0 | some y ↦ y.S ])
            (entry_at_same (up_to_extends (record { moves = t.moves; entries = t.entries }) A) (A.J + i) (omega (arith, n, l))) in
            all_held_edges z inner entries moves _
            (record {
              all_held = λ x m.
                  (subst (λ (v : Use). AllHeld A (use_results E p a q v)) e (s.held_before (old_entry_known A t s i l))).all_held x
                  (each_in (λ y. entry_result p a k (entry_set E (A.J + y)) (A.J + y) ∷ []) there
                  (subst (λ (S : ℕ). Memᴰ x (entry_result p a k S (A.J + i) ∷ [])) set m));
            });
      }
