-- Rounds keep the facts of a table.
-- Assumes nothing.
use Prim.Native.Nat.{ℕ, zero, suc, ◌+◌, ◌≤◌, ◌<◌}
use Rattle.std.specs.Prelude.{◌≡◌, refl}
use Rattle.std.proofs.Common.{sym}
use Rattle.std.proofs.Math.Path.{subst}
use Rattle.std.proofs.Math.Logic.{⊎_elim}
use Rattle.std.proofs.Math.Option.{some}
use mathlib.Core.List.Memᴰ
use mathlib.Core.List.{List, [], ◌∷◌, Memᴰ}
use Rattle.std.proofs.Math.Nat.{le_trans}
use native.Mathlib.Omega.{arith}
use Rattle.std.proofs.Math.ListN.{length}
use Rattle.words.specs.Lists.Laws.{get_elem?_in}
use Rattle.stacks.specs.Stack.{Operation, rewrite, push1, push2, copy, pop1, pop2, collapse1, collapse2}
use Rattle.stacks.specs.System.{Rule}
use Rattle.automata.specs.Automaton.{Automaton, Move}
use Rattle.automata.specs.Derivation.{Result, Derivation, derivations, Joins, join_all}
use Rattle.automata.specs.Derivation.Joining.{AnnotationFacts, annotation_none, annotation_single, join_all_facts}
use Rattle.automata.proofs.Derivation.Laws.{Concludes, Says, Derives, derivations_out}
use Rattle.automata.specs.Saturation.{with_entry, entry_number, add, add_all, extend, results, round, table_after}
use Rattle.automata.proofs.Saturation.Laws.{results_out}
use Rattle.automata.specs.Facts.{RuleFacts, MoveFacts, TableFacts}
use Rattle.automata.specs.Facts.Laws.{move_at_annotation}
use Rattle.rounds.specs.Added.{new_move, added, added_out}
use Rattle.rounds.specs.Entries.{with_entry_out, with_entry_once, with_entry_grows, entry_number_below}

-- ---- what is known of a result

-- of a result: its control exists, and B is empty exactly at order 0
pub record ResultFacts (P : ℕ) (x : Result) : Type 0 where
  pub control_exists : x.control < P
  pub annotation : AnnotationFacts (record { order = x.order; B = x.B; R = x.R })

pub move_facts_more : {n k : ℕ} {m : Move} → n ≤ k → MoveFacts n m → MoveFacts k m
move_facts_more {n} {k} {m} l f =
    record {
      state_exists = let h : m.state < n = f.state_exists in omega arith;
      order_small = f.order_small;
      none_empty = f.none_empty;
      empty_none = f.empty_none;
    }

module _ {P : ℕ} {A : Automaton} (F : TableFacts P A) where
  concluded_facts : {ρ : Rule} {premise es ms : List ℕ} {S : ℕ} {j : Joins} {d : Derivation} → RuleFacts P ρ → Concludes ρ premise es ms S j d → AnnotationFacts j
      → ResultFacts P d.result
  concluded_facts r c f = record { control_exists = rw c.control_is r.control_exists; annotation = rw (c.order_is, c.B-is, c.R-is) f }

  joined_facts : {j k : Joins} (ms : List ℕ) → AnnotationFacts j → join_all A j ms ≡ some k → AnnotationFacts k
  joined_facts {j} ms f e = join_all_facts A j ms e f (λ i l. move_at_annotation F i)

  pub says_facts : (ρ : Rule) (op : Operation) (d : Derivation) → RuleFacts P ρ → Says A ρ op d → ResultFacts P d.result
  says_facts ρ (rewrite b) d r h = concluded_facts r h.concluded (move_at_annotation F h.move)
  says_facts ρ (push1 b) d r h = concluded_facts r h.concluded (joined_facts d.moves (annotation_none _) h.joined)
  says_facts ρ (push2 b) d r h = concluded_facts r h.concluded (joined_facts d.moves (annotation_none 0) h.joined)
  says_facts ρ copy d r h = concluded_facts r h.concluded (joined_facts d.moves (move_at_annotation F h.move) h.joined)
  says_facts ρ pop1 d r h = concluded_facts r h.concluded (annotation_none _)
  says_facts ρ pop2 d r h = concluded_facts r h (annotation_none 0)
  says_facts ρ collapse1 d r h = concluded_facts r h.concluded (annotation_single 1 _ (omega arith) (omega arith))
  says_facts ρ collapse2 d r h = concluded_facts r h (annotation_single 2 _ (omega arith) (omega arith))

  pub derivation_facts : (rules : List Rule) → ((ρ : Rule) → Memᴰ ρ rules → RuleFacts P ρ) → {d : Derivation} → Memᴰ d (derivations A rules)
      → ResultFacts P d.result
  derivation_facts rules f {d} j =
      let h : Derives A rules d = derivations_out A rules j in
      says_facts h.rule h.rule.operation d (f h.rule (get_elem?_in rules d.rule h.numbered)) h.says

  -- ---- the table

  new_move_facts : (x : Result) → AnnotationFacts (record { order = x.order; B = x.B; R = x.R }) → MoveFacts (A.J + length (with_entry x.control x.S A.entries)) (new_move A x)
  unfolding new_move
  new_move_facts x f =
      let l : entry_number x.control x.S A.entries < length (with_entry x.control x.S A.entries) = entry_number_below x.control x.S A.entries in
      record { state_exists = omega arith; order_small = f.order_small; none_empty = f.none_empty; empty_none = f.empty_none }

  pub add_facts : (x : Result) → ResultFacts P x → TableFacts P (add A x)
  unfolding add new_move
  add_facts x f =
      record {
        final1_exists = λ r h. le_trans (F.final1_exists r h) (states_more (with_entry_grows x.control x.S A.entries));
        inner_facts = F.inner_facts;
        inner_rising = F.inner_rising;
        entry_control_holds = λ e j. ⊎_elim (λ i. F.entry_control_holds e i) (λ z. rw z f.control_exists) (with_entry_out x.control x.S A.entries j);
        entry_once = with_entry_once x.control x.S A.entries F.entry_once;
        move_facts = λ m j. ⊎_elim
            (λ i. move_facts_more (states_more (with_entry_grows x.control x.S A.entries)) (F.move_facts m i))
            (λ i. subst (MoveFacts (A.J + length (with_entry x.control x.S A.entries))) (sym (Memᴰ.eq_of_singleton i)) (new_move_facts x f.annotation))
            (Memᴰ.append_cases A.moves j);
      }
    where
      states_more : {k l : ℕ} → k ≤ l → A.J + k ≤ A.J + l
      states_more h = omega arith

pub add_all_facts : {P : ℕ} {A : Automaton} → TableFacts P A → (xs : List Result) → ((x : Result) → Memᴰ x xs → ResultFacts P x) → TableFacts P (add_all A xs)
unfolding add_all
add_all_facts F [] f = F
add_all_facts {A = A} F (x ∷ xs) f = add_all_facts {A = add A x} (add_facts F x (f x (Memᴰ.head refl))) xs (λ y j. f y (Memᴰ.tail j))

pub extend_facts : {P : ℕ} {A : Automaton} → TableFacts P A → (xs : List Result) → ((x : Result) → Memᴰ x xs → ResultFacts P x) → TableFacts P (extend A xs)
unfolding extend
extend_facts {A = A} F xs f = add_all_facts F (added A xs) (λ x j. f x (added_out A xs j).0)

module _ {P : ℕ} (rules : List Rule) (rule_facts : (ρ : Rule) → Memᴰ ρ rules → RuleFacts P ρ) where
  pub round_facts : {A : Automaton} → TableFacts P A → TableFacts P (round rules A)
  unfolding round
  round_facts {A} F = extend_facts F (results rules A) (λ x j.
      let (d, i, e) = results_out rules A j in
      subst (ResultFacts P) e (derivation_facts F rules rule_facts i))

  pub after_facts : {own : Automaton} → TableFacts P own → (n : ℕ) → TableFacts P (table_after rules own n)
  unfolding table_after
  after_facts F zero = F
  after_facts F (suc n) = round_facts (after_facts F n)
