-- What a round leaves in the tables, or that it passes a limit.
-- Assumes nothing.
use Rattle.std.specs.Prelude.{ℕ, ◌+◌, ◌-◌, ◌*◌, ◌≤◌, ◌<◌, ◌≡◌, List, leb, ltb, Option, Some, None}
use Rattle.std.proofs.Math.Bool.{not}
use Rattle.std.proofs.Math.Path.{refl, ap, sym}
use Rattle.std.proofs.Common.{◌∙◌, subst, inl, inr}
use Rattle.std.proofs.Math.Option.{some-injective, some-ne-none}
use native.Mathlib.Omega.{arith}
use Rattle.std.proofs.Math.ListN.{length}
use borrow.Author.Tests.{leb-true, leb-false, ltb-true, ltb-false, ne_eqb, eq-eqb}
use Rattle.words.specs.Laws.Tests.{by_test}
use Rattle.stacks.specs.System.{Rule}
use Rattle.automata.specs.Automaton.{Automaton}
use Rattle.automata.specs.Derivation.{Result}
use Rattle.automata.specs.Saturation.{add_all, extend, round, adds_move}
use Rattle.rounds.specs.Added.{add_all_length}
use Rattle.services.specs.Memory.{entry_width}
use Rattle.tables.specs.declared.Table.{Table}
use Rattle.tables.specs.Rows.{rows_in}
use Rattle.tables.specs.Rows.Laws.{length_rows_in}
use Rattle.tables.specs.Layouts.{result_row, move_row}
use Rattle.tables.specs.Pending.{limited, pending_in}
use Rattle.tables.specs.Pending.Laws.{limited_fits, limited_over, pending_fits, pending_over}
use Rattle.tables.specs.Held.{automaton_of, EntriesStand, MovesStand}
use Rattle.tables.specs.Counts.{CountsStand}
use Rattle.results.specs.Collecting.{new_results}
use Rattle.added_results.specs.Adding.{Grows, Over, Added, CountsKept}
use Rattle.one_round.specs.Rounding.{Standing, Exceeds, Rounded}

pub standing_entries : (z : Table) (most_moves most_entries : ℕ) (inner entries moves : List ℕ) → Standing z most_moves most_entries inner entries moves → EntriesStand z entries
standing_entries z most_moves most_entries inner entries moves s =
    let a : z.entries ≤ most_entries = s.growing.entries_few in
    let b : most_entries * entry_width ≤ length entries = s.growing.entries_lent in
    let c : z.inner1 + most_entries ≤ 64 = s.growing.states_few in
    record { entries_lent = omega arith; states_few = omega arith }

pub standing_moves : (z : Table) (most_moves most_entries : ℕ) (inner entries moves : List ℕ) → Standing z most_moves most_entries inner entries moves → MovesStand z moves
standing_moves z most_moves most_entries inner entries moves s =
    let a : z.moves ≤ most_moves = s.moves_few in
    let b : most_moves * 5 ≤ length moves = s.moves_lent in
    record { moves_lent = omega arith }

module _ (rules : List Rule) where
  pub round_is : (A : Automaton) → round rules A ≡ add_all A (new_results rules A)
  unfolding round extend new_results
  round_is A = refl

  -- Where there is no room, results are counted exactly if a round would add a move.
  pub counted_adds : (A : Automaton) (n : ℕ) (pending : List ℕ) → pending_in 0 n pending ≡ limited 0 (new_results rules A) → ltb 0 n ≡ adds_move rules A
  unfolding adds_move
  counted_adds A n pending c =
      let more : length (round rules A).moves ≡ length A.moves + length (new_results rules A) =
      ap (λ (C : Automaton). length C.moves) (round_is A) ∙ add_all_length A (new_results rules A) in
      by_test (ltb 0 n)
      (λ t. t ∙ sym (ap not (ne_eqb (length (round rules A).moves) (length A.moves) (λ e.
      let none : length (new_results rules A) ≤ 0 = omega arith in
      absurd (some-ne-none _ (sym (limited_fits 0 (new_results rules A) none) ∙ sym c ∙ pending_over 0 n pending (ltb-true 0 n t)))))))
      (λ t. t ∙ sym (ap not (by_test (leb (length (new_results rules A)) 0)
      (λ l. let none : length (new_results rules A) ≤ 0 = leb-true _ _ l in eq-eqb (length (round rules A).moves) (length A.moves) (omega arith))
      (λ l. absurd (some-ne-none _ (sym (pending_fits 0 n pending (ltb-false 0 n t)) ∙ c ∙ limited_over 0 (new_results rules A) (leb-false _ _ l)))))))

  module _ (inner : List ℕ) (z : Table) (most_moves most_entries : ℕ) (entries moves : List ℕ) (s : Standing z most_moves most_entries inner entries moves)
      (n : ℕ) (pending : List ℕ)
      (c : pending_in (most_moves - z.moves) n pending ≡ limited (most_moves - z.moves) (new_results rules (automaton_of z inner entries moves))) where
    collected_over : most_moves - z.moves < n → most_moves - z.moves < length (new_results rules (automaton_of z inner entries moves))
    collected_over l = by_test (leb (length (new_results rules (automaton_of z inner entries moves))) (most_moves - z.moves))
        (λ e. absurd (some-ne-none (new_results rules (automaton_of z inner entries moves))
        (sym (limited_fits (most_moves - z.moves) (new_results rules (automaton_of z inner entries moves))
        (leb-true (length (new_results rules (automaton_of z inner entries moves))) (most_moves - z.moves) e)) ∙ sym c ∙ pending_over (most_moves - z.moves) n pending l)))
        (λ e. leb-false (length (new_results rules (automaton_of z inner entries moves))) (most_moves - z.moves) e)

    collected_rows : n ≤ most_moves - z.moves → rows_in result_row n pending ≡ new_results rules (automaton_of z inner entries moves)
    collected_rows l = by_test (leb (length (new_results rules (automaton_of z inner entries moves))) (most_moves - z.moves))
        (λ e. some-injective (rows_in result_row n pending) (new_results rules (automaton_of z inner entries moves))
        (sym (pending_fits (most_moves - z.moves) n pending l) ∙ c
        ∙ limited_fits (most_moves - z.moves) (new_results rules (automaton_of z inner entries moves))
        (leb-true (length (new_results rules (automaton_of z inner entries moves))) (most_moves - z.moves) e)))
        (λ e. absurd (some-ne-none (rows_in result_row n pending)
        (sym (pending_fits (most_moves - z.moves) n pending l) ∙ c
        ∙ limited_over (most_moves - z.moves) (new_results rules (automaton_of z inner entries moves))
        (leb-false (length (new_results rules (automaton_of z inner entries moves))) (most_moves - z.moves) e))))

    next_moves : length (round rules (automaton_of z inner entries moves)).moves ≡ z.moves + length (new_results rules (automaton_of z inner entries moves))
    next_moves =
        ap (λ (A : Automaton). length A.moves) (round_is (automaton_of z inner entries moves))
        ∙ add_all_length (automaton_of z inner entries moves) (new_results rules (automaton_of z inner entries moves))
        ∙ ap (λ (k : ℕ). k + length (new_results rules (automaton_of z inner entries moves))) (length_rows_in move_row z.moves moves)

    pub rounded_over : most_moves - z.moves < n → Exceeds rules inner z most_moves most_entries entries moves entries moves
    rounded_over l =
        let a : most_moves - z.moves < length (new_results rules (automaton_of z inner entries moves)) = collected_over l in
        let b : length (round rules (automaton_of z inner entries moves)).moves ≡ z.moves + length (new_results rules (automaton_of z inner entries moves)) = next_moves in
        record { over = inl (omega arith); entries_long = refl; moves_long = refl }

    pub rounded_added : (r : Option Table) (entries' moves' : List ℕ) → n ≤ most_moves - z.moves
        → Added z most_entries entries moves (rows_in result_row n pending) r entries' moves'
        → CountsKept z most_entries entries moves (rows_in result_row n pending) r entries' moves'
        → Rounded rules inner z most_moves most_entries entries moves r entries' moves'
    rounded_added (Some z') entries' moves' l a k =
        let b : Grows z entries moves (new_results rules (automaton_of z inner entries moves)) z' entries' moves' × (z'.entries ≤ most_entries) =
        subst (λ (k : List Result). Grows z entries moves k z' entries' moves' × (z'.entries ≤ most_entries)) (collected_rows l) a in
        let len : length (new_results rules (automaton_of z inner entries moves)) ≡ n = sym (ap length (collected_rows l)) ∙ length_rows_in result_row n pending in
        record { grows = b.0; standing = grown_standing z' entries' moves' b.0 b.1 (omega (arith, s.moves_few)) k }
      where
        grown_standing : (z' : Table) (entries' moves' : List ℕ)
            → Grows z entries moves (new_results rules (automaton_of z inner entries moves)) z' entries' moves' → z'.entries ≤ most_entries
            → z.moves + length (new_results rules (automaton_of z inner entries moves)) ≤ most_moves → CountsStand z' entries' moves' → Standing z' most_moves most_entries inner entries' moves'
        grown_standing z' entries' moves' g within m counts =
            let more : z'.moves ≡ z.moves + length (new_results rules (automaton_of z inner entries moves)) = g.moves_more in
            let states : z'.inner1 ≡ z.inner1 = g.same_states in
            let edges : z'.edges ≡ z.edges = g.same_edges in
            let el : length entries' ≡ length entries = g.entries_long in
            let ml : length moves' ≡ length moves = g.moves_long in
            let lent : most_moves * 5 ≤ length moves = s.moves_lent in
            let first : most_entries * entry_width ≤ length entries = s.growing.entries_lent in
            let few : z.inner1 + most_entries ≤ 64 = s.growing.states_few in
            let room : z.edges * 3 ≤ length inner = s.edges.edges_lent in
            record {
              edges = record { edges_lent = omega arith; firsts_small = λ i h. s.edges.firsts_small i (omega arith) };
              growing = record { entries_few = within; entries_lent = omega arith; states_few = omega arith };
              moves_few = omega arith;
              moves_lent = omega arith;
              counts = counts;
            }
    rounded_added None entries' moves' l a k =
        let b : Over z most_entries entries moves (new_results rules (automaton_of z inner entries moves)) entries' moves' =
        subst (λ (k : List Result). Over z most_entries entries moves k entries' moves') (collected_rows l) a in
        record {
          over = inr (subst (λ (A : Automaton). most_entries < length A.entries) (sym (round_is (automaton_of z inner entries moves))) (b.over inner));
          entries_long = b.entries_long;
          moves_long = b.moves_long;
        }
