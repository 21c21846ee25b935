-- The tables of a sound case's own automaton are as acceptance asks, and the words of the root cell tell whether its configuration lies in the
-- target.
-- Assumes nothing.
use Rattle.std.specs.Prelude.{ℕ, ◌+◌, ◌*◌, ◌≤◌, ◌<◌, ◌≡◌, replicate}
use Rattle.std.proofs.Common.{ap, sym, ◌∙◌, arith}
use mathlib.Core.List.{List, Memᴰ}
use Rattle.std.proofs.Math.ListN.{length}
use Rattle.std.proofs.lemmas.List.{length-replicate}
use Rattle.stacks.specs.Stack.{Annotation}
use Rattle.automata.specs.Automaton.{Automaton, Edge}
use Rattle.automata.specs.Acceptance.{in_target}
use Rattle.automata.specs.Saturation.{Saturated}
use Rattle.rounds.specs.Won.{is_won, accepts_stack}
use Rattle.walks.specs.Cell.{stack_at, stacks}
use Rattle.walks.specs.Cell.Formed.{order_at}
use Rattle.walks.specs.Cell.Laws.{stack_order, annotation_of2}
use Rattle.files.specs.Bytes.{count_of}
use Rattle.files.specs.Case.{head, edge_records, own_of, case_refusal}
use Rattle.files.proofs.Case.Laws.{case_placed_lem, case_head, case_bounds, case_table, case_moves_few, case_states_few}
use Rattle.files.specs.Case.Records.{inner_out}
use Rattle.services.specs.Memory.{entry_width}
use Rattle.tables.specs.declared.Table.{Table}
use Rattle.tables.specs.Rows.Laws.{length_rows_in}
use Rattle.tables.specs.Layouts.{edge_row, entry_row, move_row}
use Rattle.tables.specs.Held.{automaton_of}
use Rattle.case_tables.specs.Own.{RoomForOwn}
use Rattle.saturate.specs.Case.Laws.{inner_few}
use Rattle.acceptance_words.specs.Rows.{round_in}
use Rattle.acceptance.specs.Named.{TablesNamed}
use Rattle.acceptance.specs.Table.{AutomatonSmall}
use Rattle.acceptance.specs.Table.Laws.{stands}
use Rattle.acceptance.specs.Cells.{RoundsStand}
use Rattle.start_records.specs.Body.{cells_in}
use Rattle.start_records.specs.Body.Laws.{length_cells_in}
use Rattle.acceptance.specs.Cells.Laws.{StatesBelow, cell_won}
use Rattle.own_target.specs.Target.{configuration_in}

-- ---- the own automaton of a sound case

module _ (file : List ℕ) (sound : case_refusal file ≡ 0) where
  -- tables of these lengths have room for it
  pub own_room : (inner entries moves : List ℕ) → 192 ≤ length inner → 64 * entry_width ≤ length entries → 5120 ≤ length moves → RoomForOwn file inner entries moves
  own_room inner entries moves hi he hm =
      let edges : count_of file 2 ≤ 64 = (case_placed_lem file sound).edges_count in
      let states : (own_of file).J + length (own_of file).entries ≤ 64 = case_states_few file sound in
      let few : count_of file 3 ≤ 1024 = (case_placed_lem file sound).moves_count in
      record { inner_room = omega arith; entry_room = omega arith; move_room = omega arith; states_few = states }

  -- its inner edges lead from states that exist
  inner_exists : (e : Edge) → Memᴰ e (own_of file).inner → e.state < 64
  unfolding own_of
  inner_exists e j =
      let r = inner_out (head file) (edge_records file) j in
      let b = ((case_bounds file sound).edge r.1).state_exists in
      let p : (head file).P ≤ 8 = (case_head file sound).controls_few in
      let i : (head file).I ≤ 8 = (case_head file sound).inner2_few in
      rw r.3 (omega arith)

  -- the states that it names are below 64
  own_small : AutomatonSmall (own_of file)
  unfolding own_of
  own_small =
      let facts = case_table file sound in
      let states : (own_of file).J + length (own_of file).entries ≤ 64 = case_states_few file sound in
      let p : (head file).P ≤ 8 = (case_head file sound).controls_few in
      record {
        states_few = states;
        inner_small = λ e j. let l : e.first < (own_of file).J = (facts.inner_facts e j).to_inner in (inner_exists e j, omega arith);
        controls_small = λ e j. let l : e.control < (head file).P = facts.entry_control_holds e j in omega arith;
        states_small = λ m j. let l : m.state < (own_of file).J + length (own_of file).entries = (facts.move_facts m j).state_exists in omega arith;
        final1_small = λ r i. let l : r < (own_of file).J + length (own_of file).entries = facts.final1_exists r i in omega arith;
        final2_small = λ q i.
            let l : q < (head file).P + (head file).I = (case_head file sound).final2_exists q i in
            let n : (head file).I ≤ 8 = (case_head file sound).inner2_few in
            omega arith;
      }

  -- tables of these lengths that hold it are as acceptance asks
  pub own_named : (z : Table) (inner entries moves : List ℕ) → automaton_of z inner entries moves ≡ own_of file
      → 192 ≤ length inner → 64 * entry_width ≤ length entries → 5120 ≤ length moves → TablesNamed z inner entries moves
  own_named z inner entries moves own hi he hm =
      let ni : z.edges ≡ length (own_of file).inner = sym (length_rows_in edge_row z.edges inner) ∙ ap (λ (A : Automaton). length A.inner) own in
      let ne : z.entries ≡ length (own_of file).entries = sym (length_rows_in entry_row z.entries entries) ∙ ap (λ (A : Automaton). length A.entries) own in
      let nm : z.moves ≡ length (own_of file).moves = sym (length_rows_in move_row z.moves moves) ∙ ap (λ (A : Automaton). length A.moves) own in
      let edges : length (own_of file).inner ≤ 64 = inner_few file sound in
      let states : (own_of file).J + length (own_of file).entries ≤ 64 = case_states_few file sound in
      let few : length (own_of file).moves ≤ 1024 = case_moves_few file sound in
      stands own_small (record { is = own; edges_lent = omega arith; entries_lent = omega arith; moves_lent = omega arith })

-- ---- the answer

-- words as they are made, and others in their place, have room for as many
pub made_room : (m n k : ℕ) → k ≡ length {A = ℕ} (replicate m 0) → n ≤ m → n ≤ k
made_room m n k e l = let s : length {A = ℕ} (replicate m 0) ≡ m = length-replicate m 0 in omega arith

-- The words of the root have a round for the control exactly if the table accepts the configuration. The sizes of the rounds do not enter.
pub won_in_target : (T : Saturated) → StatesBelow T.table → (n : ℕ) (cells : List ℕ) {rounds : List ℕ}
    → RoundsStand T (cells_in n cells) rounds n → (control root : ℕ) → root < n → order_at (cells_in n cells) root ≡ 2
    → is_won (round_in rounds root control) ≡ in_target T.table (configuration_in n cells control root)
unfolding in_target accepts_stack
won_in_target T below n cells stand control root l e =
    let long : length (cells_in n cells) ≡ n = length_cells_in n cells in
    cell_won T below (cells_in n cells) stand root l control
    ∙ ap (λ (u : Annotation). accepts_stack T.table u control)
    (annotation_of2 (stack_at (stacks (cells_in n cells)) root) (stack_order (cells_in n cells) root (omega arith) ∙ e))
