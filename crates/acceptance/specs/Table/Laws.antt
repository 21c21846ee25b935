-- The tables that saturation leaves hold the table of a sound case after rounds, and keep what acceptance asks of tables.
-- Assumes nothing.
use Rattle.std.specs.Prelude.{ℕ, ◌+◌, ◌≤◌, ◌<◌, ◌≡◌, get_or}
use Rattle.std.proofs.Common.{ap, sym, ◌∙◌, subst, arith}
use Rattle.std.proofs.Math.Option.{some}
use mathlib.Core.List.{List, Memᴰ}
use Rattle.std.proofs.Math.ListN.{length}
use Rattle.words.proofs.Sets.Laws.{All, Has}
use Rattle.words.specs.Lists.Laws.{get_or_in}
use Rattle.automata.specs.Automaton.{Automaton, Edge, no_move, no_edge, no_entry}
use Rattle.automata.specs.Facts.{TableFacts}
use Rattle.automata.specs.Saturation.{Saturated}
use Rattle.rounds.specs.Kept.{after_facts}
use Rattle.rounds.specs.Limits.{IsSaturated, saturate_some, within_keeps}
use Rattle.rounds.proofs.Before.{table_extends}
use Rattle.files.specs.Case.{head, own_of, rules_of, edge_records, case_refusal}
use Rattle.files.proofs.Case.Laws.{case_rules, case_table, case_head, case_bounds}
use Rattle.files.specs.Case.Records.{inner_out}
use Rattle.services.specs.Memory.{lent}
use Rattle.services.specs.Saturate.{Lent, saturated}
use Rattle.tables.specs.declared.Table.{Table}
use Rattle.tables.specs.Rows.{Layout, row_at, rows_in}
use Rattle.tables.specs.Rows.Laws.{length_rows_in, get_or_rows_in}
use Rattle.tables.specs.Layouts.{move_row, entry_row, edge_row}
use Rattle.acceptance.specs.Named.{TablesNamed}
use Rattle.acceptance.specs.Table.{AutomatonSmall, HoldsTable}

-- each of the first rows is an element of what the rows hold
row_in : {X : Type 0} (L : Layout X) (n : ℕ) (t : List ℕ) (d : X) (l : List X) → rows_in L n t ≡ l → (i : ℕ) → i < n → Memᴰ (row_at L t i) l
row_in {X} L n t d l e i h =
    let len : length (rows_in L n t) ≡ n = length_rows_in L n t in
    subst (λ (x : X). Memᴰ x l) (get_or_rows_in L n t i d h)
    (subst (λ (k : List X). Memᴰ (get_or (rows_in L n t) i d) k) e (get_or_in (rows_in L n t) i d (omega arith)))

-- tables that hold a small automaton keep what acceptance asks
pub stands : {A : Automaton} {z : Table} {inner entries moves : List ℕ} → AutomatonSmall A → HoldsTable A z inner entries moves → TablesNamed z inner entries moves
stands {A} {z} {inner} {entries} {moves} s h =
    let J : z.inner1 ≡ A.J = ap (λ (B : Automaton). B.J) h.is in
    let es : rows_in entry_row z.entries entries ≡ A.entries = ap (λ (B : Automaton). B.entries) h.is in
    let n : z.entries ≡ length A.entries = sym (length_rows_in entry_row z.entries entries) ∙ ap length es in
    let few : A.J + length A.entries ≤ 64 = s.states_few in
    let inside : (i : ℕ) → i < z.edges → Memᴰ (row_at edge_row inner i) A.inner =
    row_in edge_row z.edges inner no_edge A.inner (ap (λ (B : Automaton). B.inner) h.is) in
    record {
      edges_stand = record { edges_lent = h.edges_lent; firsts_small = λ i l. (s.inner_small _ (inside i l)).1 };
      entries_stand = record { entries_lent = h.entries_lent; states_few = omega arith };
      edges_named =
          record {
            inner_small = λ i l. (s.inner_small _ (inside i l)).0;
            controls_small = λ i l. s.controls_small _ (row_in entry_row z.entries entries no_entry A.entries es i l);
          };
      moves_named =
          record {
            moves_lent = h.moves_lent;
            states_small = λ i l.
                s.states_small _ (row_in move_row z.moves moves no_move A.moves (ap (λ (B : Automaton). B.moves) h.is) i l);
          };
      finals_named =
          record {
            final1_small = subst (λ (f : ℕ). All f (λ r. r < 64)) (sym (ap (λ (B : Automaton). B.final1) h.is)) s.final1_small;
            final2_small = subst (λ (f : ℕ). All f (λ q. q < 64)) (sym (ap (λ (B : Automaton). B.final2) h.is)) s.final2_small;
          };
    }

-- ---- the table of a sound case after at most so many rounds

module _ (x : Lent) (rounds : ℕ) (sound : case_refusal x.case ≡ 0) {T : Saturated} (is : saturated x rounds ≡ some T) where
  pub is_saturated : IsSaturated (rules_of x.case) (lent x.moves x.entries) (own_of x.case) rounds T
  unfolding saturated
  is_saturated = saturate_some (rules_of x.case) (lent x.moves x.entries) (own_of x.case) rounds is

  table_facts : TableFacts (head x.case).P T.table
  table_facts =
      rw is_saturated.after.table_is
      (after_facts (rules_of x.case) (λ ρ j. case_rules x.case sound j) (case_table x.case sound) is_saturated.after.rounds)

  -- the inner edges lead from states that exist
  inner_exists : (e : Edge) → Memᴰ e T.table.inner → e.state < 64
  unfolding own_of
  inner_exists e j =
      let r = inner_out (head x.case) (edge_records x.case) (subst (Memᴰ e) (table_extends is_saturated.after).same_inner j) in
      let b = ((case_bounds x.case sound).edge r.1).state_exists in
      let h = case_head x.case sound in
      let c : (head x.case).P ≤ 8 = h.controls_few in
      let i : (head x.case).I ≤ 8 = h.inner2_few in
      rw r.3 (omega arith)

  pub table_small : AutomatonSmall T.table
  unfolding own_of
  table_small =
      let few : T.table.J + length T.table.entries ≤ 64 = (within_keeps (lent x.moves x.entries) T.table is_saturated.limits_kept).states_fit in
      let c : (head x.case).P ≤ 8 = (case_head x.case sound).controls_few in
      record {
        states_few = few;
        inner_small = λ e j. let f : e.first < T.table.J = (table_facts.inner_facts e j).to_inner in (inner_exists e j, omega arith);
        controls_small = λ e j. let l : e.control < (head x.case).P = table_facts.entry_control_holds e j in omega arith;
        states_small = λ m j. let l : m.state < T.table.J + length T.table.entries = (table_facts.move_facts m j).state_exists in omega arith;
        final1_small = λ r i. let l : r < T.table.J + length T.table.entries = table_facts.final1_exists r i in omega arith;
        final2_small = λ q i.
            let e : T.table.final2 ≡ (head x.case).final2 = (table_extends is_saturated.after).same_final2 in
            let l : q < (head x.case).P + (head x.case).I = (case_head x.case sound).final2_exists q (subst (λ (f : ℕ). Has f q) e i) in
            let n : (head x.case).I ≤ 8 = (case_head x.case sound).inner2_few in
            omega arith;
      }
