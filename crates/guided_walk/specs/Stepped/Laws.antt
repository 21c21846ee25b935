-- The walk after a step by the numbers that the code finds is the one of the guided run.
-- Assumes nothing.
use Rattle.std.specs.Prelude.{ℕ, ◌+◌, ◌-◌, ◌<◌, ◌≡◌, get_or}
use Rattle.std.proofs.Math.Path.{refl, ap, sym}
use Rattle.std.proofs.Common.{◌∙◌, subst}
use mathlib.Core.List.{List, [], ◌++◌}
use Rattle.std.proofs.Math.ListN.{length}
use Rattle.stacks.specs.Stack.{Operation, rewrite, push1, push2, copy, pop1, pop2, collapse1, collapse2, new_cells}
use Rattle.stacks.specs.System.{Rule}
use Rattle.automata.specs.Automaton.{Automaton, Move, no_move, move_at, entry_edge}
use Rattle.automata.specs.Saturation.{Saturated}
use Rattle.walks.specs.Cell.{cells_after, root_after}
use Rattle.walks.specs.Guide as walks
use Rattle.tables.specs.declared.Table.{Table}
use Rattle.tables.specs.Rows.{rows_in}
use Rattle.tables.specs.Rows.Laws.{length_rows_in}
use Rattle.tables.specs.Layouts.{move_row, edge_row}
use Rattle.tables.specs.Held.{automaton_of}
use Rattle.cell_memory.specs.Memory.{guided_in}
use Rattle.cell_memory.specs.Memory.Laws.{length_guided_in}
use Rattle.cell_steps.specs.declared.Top.{Top}
use Rattle.cell_steps.specs.declared.Choice.{Choice}
use Rattle.cell_steps.specs.Steps.{step_choices, guided_by}
use Rattle.cell_steps.specs.Steps.Choices.{top_state, root_edge, step_choices_lem}
use Rattle.guided_step.specs.declared.Walk.{Walk}
use Rattle.guided_step.specs.Walks.{walk_in, top_by}
use Rattle.guided_step.specs.Step.{Taken}
use Rattle.guided_walk.specs.Stepped.{moves_only, move_choice, entry_choice, choice_by, stepped, Steps}

-- ---- numbers by the tables

module _ (z : Table) (moves : List ℕ) where
  pub edge_is : (e : ℕ) → z.edges + e ≡ entry_edge (moves_only z moves) e
  unfolding entry_edge
  edge_is e = ap (λ (k : ℕ). k + e) (sym (length_rows_in edge_row z.edges []))

  pub move_state : (p : ℕ) {m : Move} → m ≡ get_or (rows_in move_row z.moves moves) p no_move → m.state ≡ (move_at (moves_only z moves) p).state
  unfolding move_at
  move_state p e = ap (λ (m : Move). m.state) e

  pub move_choice_lem : {p' p r n e : ℕ} → r ≡ (move_at (moves_only z moves) p).state → n ≡ r - z.inner1 → e ≡ entry_edge (moves_only z []) n
      → record { state = r; number = p; control = p'; edge = e } ≡ move_choice (moves_only z moves) p' p
  unfolding entry_edge
  move_choice_lem {p'} {p} f g h =
      λ i. record { state = f i; number = p; control = p'; edge = (h ∙ ap (entry_edge (moves_only z moves)) (g ∙ ap (λ (s : ℕ). s - z.inner1) f)) i }

pub entry_choice_lem : (z : Table) {p' p e : ℕ} → e ≡ entry_edge (moves_only z []) p
    → record { state = 0; number = p; control = p'; edge = e } ≡ entry_choice (moves_only z []) p' p
entry_choice_lem z {p'} {p} h = λ i. record { state = 0; number = p; control = p'; edge = h i }

-- the state of a premise that is a move
pub premise_small : (z : Table) (moves : List ℕ) (p : ℕ) {op σ : Operation} → top_state (moves_only z moves) op p < 64 → op ≡ σ
    → top_state (moves_only z moves) σ p ≡ (move_at (moves_only z moves) p).state → (move_at (moves_only z moves) p).state < 64
premise_small z moves p h e f = subst (λ (k : ℕ). k < 64) (ap (λ (o : Operation). top_state (moves_only z moves) o p) e ∙ f) h

pub choice_same : (A : Automaton) {op σ : Operation} {p' p : ℕ} {r : Choice} → op ≡ σ → r ≡ choice_by A p' p σ → r ≡ choice_by A p' p op
choice_same A {p' = p'} {p} e f = f ∙ ap (choice_by A p' p) (sym e)

-- ---- the same choices by all tables

module _ (z : Table) (inner entries moves : List ℕ) where
  pub state_same : (op : Operation) (p : ℕ) → top_state (moves_only z moves) op p ≡ top_state (automaton_of z inner entries moves) op p
  unfolding top_state move_at
  state_same (rewrite b) p = refl
  state_same (push1 b) p = refl
  state_same (push2 b) p = refl
  state_same copy p = refl
  state_same pop1 p = refl
  state_same pop2 p = refl
  state_same collapse1 p = refl
  state_same collapse2 p = refl

  inner_same : (e : ℕ) → entry_edge (moves_only z moves) e ≡ entry_edge (automaton_of z inner entries moves) e
  unfolding entry_edge
  inner_same e = ap (λ (k : ℕ). k + e) (length_rows_in edge_row z.edges [] ∙ sym (length_rows_in edge_row z.edges inner))

  pub edge_same : (op : Operation) (p : ℕ) → root_edge (moves_only z moves) op p ≡ root_edge (automaton_of z inner entries moves) op p
  unfolding root_edge move_at
  edge_same (rewrite b) p = inner_same _
  edge_same (push1 b) p = inner_same _
  edge_same (push2 b) p = inner_same _
  edge_same copy p = inner_same _
  edge_same pop1 p = inner_same p
  edge_same pop2 p = refl
  edge_same collapse1 p = inner_same p
  edge_same collapse2 p = refl

-- ---- the step of the guided run

walk_same : {p' r r' : ℕ} {gs hs : List walks.Guided} → r ≡ r' → gs ≡ hs
    → ◌≡◌ {A = walks.Walk} (record { control = p'; root = r; cells = gs }) (record { control = p'; root = r'; cells = hs })
walk_same {p'} e f = λ i. record { control = p'; root = e i; cells = f i }

-- the walk that the code makes
pub steps_are : (A : Automaton) (op : Operation) {p' p : ℕ} {x : Top} {es ms : List ℕ} (w : Walk) {cells cells' : List ℕ} {k : Choice} {r m : ℕ} → k ≡ choice_by A p' p op
    → guided_in (w.cells + new_cells op) cells' ≡ guided_in w.cells cells ++ guided_by (cells_after op w.cells x.symbol x.annotation x.rest x.below)
    (step_choices k.state k.number k.control k.edge es ms op) → r ≡ root_after op w.cells x.annotation x.below → m ≡ new_cells op
    → Steps A op p' p x es ms w cells (record { control = p'; root = r; cells = w.cells + m; steps = w.steps + 1 }) cells'
unfolding stepped
steps_are A op {x = x} {es} {ms} w {cells} {cells'} e h f g =
    record {
      walk_is = walk_same f
          (ap (λ (i : ℕ). guided_in (w.cells + i) cells') g ∙ h
          ∙ ap (λ (k : Choice). guided_in w.cells cells ++ guided_by (cells_after op w.cells x.symbol x.annotation x.rest x.below) (step_choices k.state k.number k.control k.edge es ms op)) e);
      cells_more = ap (λ (i : ℕ). w.cells + i) g;
      steps_more = refl;
    }

module _ (rules : List Rule) (T : Saturated) (z : Table) (inner entries moves : List ℕ) (is : T.table ≡ automaton_of z inner entries moves) where
  -- the walk after the step that is next
  pub stepped_moved : (w : Walk) (cells : List ℕ) {o : walks.Next} {x : Top} {n p : ℕ} {es ms : List ℕ} (t : Taken rules T (walk_in w cells) o x n p es ms)
      → stepped (moves_only z moves) t.rule.operation t.rule.next p x es ms w cells
      ≡ walks.moved rules T (walk_in w cells) (top_by x t.move) t.derivation t.rule
  unfolding stepped walks.moved
  stepped_moved w cells {x = x} {p = p} {es} {ms} t =
      let op : Operation = t.rule.operation in
      let l : w.cells ≡ length (guided_in w.cells cells) = sym (length_guided_in w.cells cells) in
      let r : top_state (moves_only z moves) op p ≡ top_state T.table op p =
      state_same z inner entries moves op p ∙ ap (λ (A : Automaton). top_state A op p) (sym is) in
      let e : root_edge (moves_only z moves) op p ≡ root_edge T.table op p =
      edge_same z inner entries moves op p ∙ ap (λ (A : Automaton). root_edge A op p) (sym is) in
      let f = step_choices_lem T.table t.derivation t.rule.next op es ms (top_state (moves_only z moves) op p) (root_edge (moves_only z moves) op p) p t.premise_is r e t.holds in
      walk_same (ap (λ (k : ℕ). root_after op k x.annotation x.below) l)
      (λ i. guided_in w.cells cells ++ guided_by (cells_after op (l i) x.symbol x.annotation x.rest x.below) (f i))
