-- What is prepared for the first round, and for the next one.
-- Assumes nothing.
use Rattle.std.specs.Prelude.{ℕ, ◌+◌, ◌≤◌, ◌<◌, true, ◌≡◌, refl}
use Rattle.std.proofs.lemmas.Bool.{false≢true}
use Rattle.std.proofs.Math.Path.{ap₂, sym, subst}
use Rattle.std.proofs.Common.{◌∙◌, arith}
use mathlib.Core.List.{List, Memᴰ}
use Rattle.std.proofs.Math.ListN.{length}
use Rattle.stacks.specs.System.{Rule}
use Rattle.automata.specs.Automaton.{Automaton, Move, no_move, move_at}
use Rattle.automata.specs.Facts.{states, Extends}
use Rattle.automata.specs.Facts.Laws.{move_at_kept, entries_grow}
use Rattle.automata.specs.Saturation.{extend, results, up_to, size_of, held}
use Rattle.automata.proofs.Saturation.Laws.{extends_up_to}
use Rattle.rounds.specs.Added.{add_all_extends, extend_holds}
use Rattle.tables.specs.declared.Table.{Table}
use Rattle.tables.specs.Rows.{row_at, rows_in}
use Rattle.tables.specs.Rows.Laws.{length_rows_in, get_or_rows_in}
use Rattle.tables.specs.Layouts.{move_row, entry_row}
use Rattle.tables.specs.Held.{automaton_of}
use Rattle.move_index.specs.Keys.{ByState, ByWords}
use Rattle.move_index.specs.Keys.Laws.{by_state_same, by_words_same}
use Rattle.readings.specs.Memo.{MemoBefore, MemoUpTo}
use Rattle.readings.specs.Memo.Laws.{memo_next}
use Rattle.readings.specs.declared.Before.{Before}
use Rattle.readings.specs.Before.{table_before}
use Rattle.premises.specs.Settled.{SettledBy}
use Rattle.results.specs.Collecting.{new_results, RulesStand, rules_in, RoundReady}
use Rattle.added_results.specs.Adding.{StatesExist, Grows}
use Rattle.added_results.specs.Adding.Exist.{add_all_exist}
use Rattle.one_round.specs.Rounding.{Standing}
use Rattle.one_round.specs.Rounding.Laws.{standing_entries, standing_moves}
use Rattle.saturation.specs.Prepared.{none_before, round_before, Prepared}

-- ---- round 1

pub prepared_first : (rules : List Rule) (inner : List ℕ) (z : Table) (entries moves states words memo : List ℕ) → StatesExist (automaton_of z inner entries moves)
    → ByState 0 moves states → ByWords 0 moves words → MemoBefore z.moves memo → Prepared rules inner z entries moves none_before states words memo
prepared_first rules inner z entries moves states words memo h bs bw m =
    record {
      states_exist = h;
      settled = record {
        moves_before = omega arith;
        entries_before = omega arith;
        states_before = λ i b. absurd (omega arith);
        none_before = λ e. (refl, refl);
        held_before = λ e. absurd (false≢true (sym e));
      };
      by_state = bs;
      by_words = bw;
      memo_before = m;
      none_settled = refl;
    }

-- ---- the next round

module _ (rules : List Rule) (inner : List ℕ) (z : Table) (entries moves : List ℕ) (z' : Table) (entries' moves' : List ℕ)
    (g : Grows z entries moves (new_results rules (automaton_of z inner entries moves)) z' entries' moves') where
  grown : Extends (automaton_of z inner entries moves) (automaton_of z' inner entries' moves')
  grown = subst (Extends (automaton_of z inner entries moves)) (sym (g.table_is inner)) (add_all_extends (automaton_of z inner entries moves) (new_results rules (automaton_of z inner entries moves)))

  -- the rows of the moves so far stay
  same_rows : (i : ℕ) → i < z.moves → row_at move_row moves i ≡ row_at move_row moves' i
  unfolding move_at
  same_rows i b =
      let len : length (rows_in move_row z.moves moves) ≡ z.moves = length_rows_in move_row z.moves moves in
      let more = g.moves_more in
      sym (get_or_rows_in move_row z.moves moves i no_move b)
      ∙ sym (move_at_kept grown i (omega arith))
      ∙ get_or_rows_in move_row z'.moves moves' i no_move (omega (arith, more))

  settled_next : StatesExist (automaton_of z inner entries moves)
      → SettledBy (automaton_of z' inner entries' moves') (round_before z)
      (results rules (table_before (round_before z) (automaton_of z' inner entries' moves')))
  unfolding extend new_results size_of
  settled_next h =
      let A : Automaton = automaton_of z inner entries moves in
      let A' : Automaton = automaton_of z' inner entries' moves' in
      let nm : length A.moves ≡ z.moves = length_rows_in move_row z.moves moves in
      let ne : length A.entries ≡ z.entries = length_rows_in entry_row z.entries entries in
      let nm' : length A'.moves ≡ z'.moves = length_rows_in move_row z'.moves moves' in
      let more = g.moves_more in
      let eg : length A.entries ≤ length A'.entries = entries_grow grown in
      let back : up_to (record { moves = z.moves; entries = z.entries }) A' ≡ A =
      ap₂ (λ (m e : ℕ). up_to (record { moves = m; entries = e }) A') (sym nm) (sym ne) ∙ extends_up_to grown in
      record {
        moves_before = omega arith;
        entries_before = omega arith;
        states_before = λ i b.
            let old = h.exists i (omega arith) in
            let same = move_at_kept grown i (omega arith) in
            let J : A'.J ≡ A.J = grown.same_J in
            subst (λ (m : Move). m.state < A'.J + z.entries) (sym same) (omega (arith, old, J, ne));
        none_before = λ e. absurd (false≢true e);
        held_before = λ e.
            record {
              all_held = λ x m.
                  subst (λ (C : Automaton). held C x ≡ true) (sym (g.table_is inner))
                  (extend_holds A {xs = results rules A} (subst (λ (C : Automaton). Memᴰ x (results rules C)) back m));
            };
      }

  pub prepared_next : (states words memo : List ℕ) → StatesExist (automaton_of z inner entries moves) → ByState z.moves moves states → ByWords z.moves moves words → MemoUpTo z.moves memo
      → z.moves < z'.moves → Prepared rules inner z' entries' moves' (round_before z) states words memo
  prepared_next states words memo h bs bw m l =
      record {
        states_exist = subst StatesExist (sym (g.table_is inner)) (add_all_exist (automaton_of z inner entries moves) (new_results rules (automaton_of z inner entries moves)) h);
        settled = settled_next h;
        by_state = by_state_same z.moves moves moves' states same_rows bs;
        by_words = by_words_same z.moves moves moves' words same_rows bw;
        memo_before = memo_next m l;
        none_settled = refl;
      }

pub prepared_same : (rules : List Rule) (inner : List ℕ) (z : Table) (entries moves : List ℕ) (t t' : Before) (states words memo : List ℕ) → t' ≡ t
    → Prepared rules inner z entries moves t states words memo → Prepared rules inner z entries moves t' states words memo
prepared_same rules inner z entries moves t t' states words memo e h = subst (λ (b : Before). Prepared rules inner z entries moves b states words memo) (sym e) h

-- ---- a round can be worked out, once the moves are indexed

pub ready : (z : Table) (inner entries moves : List ℕ) (t : Before) (states words states' words' : List ℕ) (count : ℕ) (body memo : List ℕ) {m e : ℕ} → Standing z m e inner entries moves
    → ByState z.moves moves states' → ByWords z.moves moves words' → RulesStand count body → Prepared (rules_in count body) inner z entries moves t states words memo
    → RoundReady z inner entries moves states' words' t count body memo
ready z inner entries moves t states words states' words' count body memo {m} {e} stands bs bw rules h =
    record {
      indexed = record {
        edges_stand = stands.edges;
        moves_indexed = record {
          by_words = record {
            entries_stand = standing_entries z m e inner entries moves stands;
            moves_stand = standing_moves z m e inner entries moves stands;
            by_words = bw;
          };
          by_state = bs;
        };
      };
      rules_stand = rules;
      settled_by = h.settled;
      memo_before = h.memo_before;
      none_settled = h.none_settled;
    }
