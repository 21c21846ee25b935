-- The numbers of a derivation from an earlier table are those of the same derivation from the whole table: the words that hold them, and
-- their bounds.
-- Assumes nothing.
use Prim.Native.Nat.{ℕ, ◌+◌, ◌-◌, ◌≤◌, ◌<◌}
use Rattle.std.specs.Prelude.{◌≡◌, List, [], ◌∷◌}
use Rattle.std.proofs.Math.Path.{ap}
use Rattle.std.proofs.Common.{sym, ◌∙◌, subst}
use native.Mathlib.Omega.{arith}
use Rattle.std.proofs.Math.ListN.{length}
use Rattle.words.specs.Sets.{members}
use Rattle.stacks.specs.Stack.{Operation, rewrite, push1, push2, copy, pop1, pop2, collapse1, collapse2}
use Rattle.stacks.specs.System.{Rule}
use Rattle.automata.specs.Automaton.{Automaton, Move, move_at, entry_set, entry_edge}
use Rattle.automata.specs.Automaton.Laws.{EntryIs, EntryMove, entry_move_set}
use Rattle.automata.specs.Derivation.{Derivation, named}
use Rattle.automata.specs.Derivation.Numbers.{paired_state}
use Rattle.automata.proofs.Derivation.Laws.{Says}
use Rattle.automata.proofs.Derivation.Kept.{named_kept}
use Rattle.automata.specs.Facts.{Extends}
use Rattle.automata.specs.Facts.Laws.{move_at_kept, entry_move_kept}
use Rattle.walks.specs.Guide.{first_or_zero, chooses_all}
use Rattle.tables.specs.declared.Table.{Table}
use Rattle.tables.specs.Rows.{rows_in}
use Rattle.tables.specs.Rows.Laws.{length_rows_in}
use Rattle.tables.specs.Layouts.{move_row, entry_row, edge_row}
use Rattle.tables.specs.Held.{automaton_of, EntriesStand}
use Rattle.first_reading.specs.Words.{TablesFew}
use Rattle.first_derivation.specs.Premises.{edge_states, read_states}
use Rattle.first_derivation.specs.Derived.Choices.{by_state}
use Rattle.cell_steps.specs.Steps.Choices.{top_state, root_edge, HoldsRest, HoldsNumbers}
use Rattle.guided_step.specs.Step.{StepSmall}

-- ---- the premise

-- the first number of a premise that is one number
premise_one : {l : List ℕ} {n : ℕ} → l ≡ n ∷ [] → n ≡ first_or_zero l
unfolding first_or_zero
premise_one e = sym (ap first_or_zero e)

-- where there is none
none_small : {l : List ℕ} → l ≡ [] → first_or_zero l < 1024
unfolding first_or_zero
none_small e = rw e (omega arith)

-- ---- words that hold numbers

module _ {B A : Automaton} (x : Extends B A) (ρ : Rule) (d : Derivation) where
  -- the moves that are read from the rest set of the premise
  rest_holds : (ms : List ℕ) {p S b n : ℕ} → EntryMove B p S b n → n ≡ first_or_zero d.premise
      → by_state ms ≡ chooses_all (members (move_at B (first_or_zero d.premise)).R) d.moves → HoldsRest A d ms
  rest_holds ms {n = n} h e f q =
      let k : move_at A (first_or_zero d.premise) ≡ move_at B (first_or_zero d.premise) = subst (λ (i : ℕ). move_at A i ≡ move_at B i) e (move_at_kept x n h.below) in
      ap (λ (g : ℕ → ℕ). g q) f ∙ ap (λ (m : Move). chooses_all (members m.R) d.moves q) (sym k)

  -- the set of the premise's entry
  set_same : {p S b n : ℕ} → EntryMove B p S b n → n ≡ first_or_zero d.premise
      → entry_set A (move_at A (first_or_zero d.premise)).state ≡ entry_set B (move_at B (first_or_zero d.premise)).state
  set_same h e =
      subst (λ (i : ℕ). entry_set A (move_at A i).state ≡ entry_set B (move_at B i).state) e
      (entry_move_set A (entry_move_kept x h) ∙ sym (entry_move_set B h))

  pub holds_kept : (op : Operation) (es ms : List ℕ) → Says B ρ op d → by_state es ≡ chooses_all (edge_states B op (first_or_zero d.premise)) d.edges
      → by_state ms ≡ chooses_all (read_states B op (first_or_zero d.premise) d.edges) d.moves → HoldsNumbers A d op es ms
  unfolding edge_states read_states
  holds_kept (rewrite b) es ms h e m = tt
  holds_kept (push1 b) es ms h e m = rest_holds ms h.premise (premise_one h.concluded.premise_is) m
  holds_kept (push2 b) es ms h e m = rest_holds ms h.premise (premise_one h.concluded.premise_is) m
  holds_kept copy es ms h e m =
      let s = set_same h.premise (premise_one h.concluded.premise_is) in
      let n : named A d.edges ≡ named B d.edges = named_kept x d.edges (λ i j. (paired_state h.chosen j).2.below) in (
        λ q. ap (λ (g : ℕ → ℕ). g q) m ∙ ap (λ (k : ℕ). chooses_all (members k) d.moves q) (sym n),
        λ q. ap (λ (g : ℕ → ℕ). g q) e ∙ ap (λ (k : ℕ). chooses_all (members k) d.edges q) (sym s),
      )
  holds_kept pop1 es ms h e m = tt
  holds_kept pop2 es ms h e m = tt
  holds_kept collapse1 es ms h e m = tt
  holds_kept collapse2 es ms h e m = tt

-- ---- bounds

-- An automaton whose sizes are those of tables.
pub record Sized (A : Automaton) : Type 0 where
  pub states_few : A.J + length A.entries ≤ 64
  pub inner_few : length A.inner ≤ 64
  pub moves_few : length A.moves ≤ 1024

pub table_sized : (z : Table) (inner entries moves : List ℕ) → TablesFew z → EntriesStand z entries → Sized (automaton_of z inner entries moves)
table_sized z inner entries moves h g =
    let i : length (rows_in edge_row z.edges inner) ≡ z.edges = length_rows_in edge_row z.edges inner in
    let e : length (rows_in entry_row z.entries entries) ≡ z.entries = length_rows_in entry_row z.entries entries in
    let m : length (rows_in move_row z.moves moves) ≡ z.moves = length_rows_in move_row z.moves moves in
    record {
      states_few = omega (arith, g.states_few);
      inner_few = omega (arith, h.edges_few);
      moves_few = omega (arith, h.moves_few);
    }

module _ {A : Automaton} (few : Sized A) where
  -- an entry as the premise
  entry_small : {p S e : ℕ} → EntryIs A p S e → (n : ℕ) → e ≡ n → (n < 1024) × (entry_edge A n < 128)
  unfolding entry_edge
  entry_small {e = e} h n is =
      let b : e < length A.entries = h.below in
      let s : A.J + length A.entries ≤ 64 = few.states_few in
      let i : length A.inner ≤ 64 = few.inner_few in
      (omega arith, omega arith)

  -- a move as the premise
  move_small : {p S b i : ℕ} → EntryMove A p S b i → (n : ℕ) → i ≡ n
      → ((move_at A n).state < 64) × (n < 1024) × (entry_edge A ((move_at A n).state - A.J) < 128)
  unfolding entry_edge
  move_small {i = i} h n is =
      let b : h.entry < length A.entries = h.entry_is.below in
      let r : (move_at A n).state ≡ A.J + h.entry = ap (λ (k : ℕ). (move_at A k).state) (sym is) ∙ h.state_is in
      let m : i < length A.moves = h.below in
      let s : A.J + length A.entries ≤ 64 = few.states_few in
      let j : length A.inner ≤ 64 = few.inner_few in
      let l : length A.moves ≤ 1024 = few.moves_few in
      (omega arith, omega arith, omega arith)

  pub says_small : (ρ : Rule) (d : Derivation) (op : Operation) → Says A ρ op d → StepSmall A op (first_or_zero d.premise)
  unfolding top_state root_edge
  says_small ρ d (rewrite b) h =
      let k = move_small h.premise (first_or_zero d.premise) (premise_one h.concluded.premise_is) in
      record { state_small = k.0; premise_small = k.1; edge_small = k.2 }
  says_small ρ d (push1 b) h =
      let k = move_small h.premise (first_or_zero d.premise) (premise_one h.concluded.premise_is) in
      record { state_small = k.0; premise_small = k.1; edge_small = k.2 }
  says_small ρ d (push2 b) h =
      let k = move_small h.premise (first_or_zero d.premise) (premise_one h.concluded.premise_is) in
      record { state_small = k.0; premise_small = k.1; edge_small = k.2 }
  says_small ρ d copy h =
      let k = move_small h.premise (first_or_zero d.premise) (premise_one h.concluded.premise_is) in
      record { state_small = k.0; premise_small = k.1; edge_small = k.2 }
  says_small ρ d pop1 h =
      let k = entry_small h.premise (first_or_zero d.premise) (premise_one h.concluded.premise_is) in
      record { state_small = omega arith; premise_small = k.0; edge_small = k.1 }
  says_small ρ d pop2 h = record { state_small = omega arith; premise_small = none_small h.premise_is; edge_small = omega arith }
  says_small ρ d collapse1 h =
      let k = entry_small h.premise (first_or_zero d.premise) (premise_one h.concluded.premise_is) in
      record { state_small = omega arith; premise_small = k.0; edge_small = k.1 }
  says_small ρ d collapse2 h = record { state_small = omega arith; premise_small = none_small h.premise_is; edge_small = omega arith }
