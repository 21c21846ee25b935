-- The words of the cells are those of the stacks that they stand for.
-- Assumes nothing.
use Prim.Native.Nat.{ℕ, ◌+◌, ◌*◌, ◌≤◌, ◌<◌}
use Rattle.std.specs.Prelude.{◌≡◌, length, get_or, eqb, ltb}
use Rattle.std.proofs.Math.Path.{refl, ap, ap₂, sym}
use Rattle.std.proofs.Common.{◌∙◌, subst, arith}
use mathlib.Core.List.{List, [], ◌∷◌, Memᴰ}
use borrow.Author.Tests.{eqb-true, eqb-false, ltb-true, ltb-false}
use Rattle.words.specs.Laws.Tests.{by_test, and_left}
use Rattle.words.specs.Sets.{member}
use Rattle.words.proofs.Sets.Laws.{All}
use Rattle.words.specs.Lists.{zeros}
use Rattle.words.specs.Lists.Laws.{places_out}
use Rattle.stacks.specs.Stack.{nil1, cons1, nil2, cons2, Annotation, of1, of2, annotation_order}
use Rattle.replies.specs.declared.Acceptance.{Acceptance}
use Rattle.replies.specs.declared.Acceptance.TheVariants.{Never}
use Rattle.replies.specs.Numbers.{answer_word}
use Rattle.automata.specs.Automaton.{Automaton, no_move, no_edge, edges}
use Rattle.automata.specs.Saturation.{Saturated}
use Rattle.rounds.specs.Won.{earliest, final_round, symbol_round, above_round, is_won, round1, round_of_stack, accepts_stack}
use Rattle.rounds.specs.Won.Laws.{stack_accepts}
use Rattle.walks.specs.Cell.{Cell, empty1, symbol, empty2, above, stacks, stack_at, stack_of, order1, order2}
use Rattle.walks.specs.Cell.Formed.{Formed, Refers, cell_at, order_at}
use Rattle.walks.specs.Cell.Laws.{stack_at_lem, stack_order, annotation_of1, annotation_of2}
use Rattle.services.specs.Memory.Laws.{padded_none, get_or_padded}
use Rattle.tables.specs.declared.Table.{Table}
use Rattle.tables.specs.Rows.{rows_in}
use Rattle.tables.specs.Rows.Laws.{length_rows_in, get_or_rows_in}
use Rattle.tables.specs.Layouts.{move_row}
use Rattle.tables.specs.Held.{automaton_of, edges_in}
use Rattle.tables.specs.Held.Laws.{length_edges_in}
use Rattle.acceptance_words.specs.Rows.{acceptance_of, round_in}
use Rattle.acceptance.specs.Put.{RowZero, RowPut}
use Rattle.acceptance_words.specs.Rows.Laws.{acceptance_word, round_there, round_past}
use Rattle.acceptance.specs.Named.{TablesNamed}
use Rattle.acceptance.specs.Named.Laws.{move_small, edge_small}
use Rattle.acceptance.specs.Cells.{annotation_order_at, PartsBelow, cell_round, RoundsStand, RoundsFilled}

-- ---- states from 64 on

-- The states that the table names are below 64.
pub record StatesBelow (A : Automaton) : Type 0 where
  pub moves_below : (k : ℕ) → k < length A.moves → (get_or A.moves k no_move).state < 64
  pub edges_below : (k : ℕ) → k < length (edges A) → (get_or (edges A) k no_edge).state < 64
  pub final1_below : All A.final1 (λ r. r < 64)
  pub final2_below : All A.final2 (λ q. q < 64)

-- no number of these is a place
earliest_none : (f : ℕ → Acceptance) (l : List ℕ) → ((i : ℕ) → Memᴰ i l → ⊥) → earliest f l ≡ Never
unfolding earliest
earliest_none f [] h = refl
earliest_none f (i ∷ is) h = absurd (h i (Memᴰ.head refl))

final_past : (final q : ℕ) → All final (λ r. r < 64) → 64 ≤ q → final_round final q ≡ Never
unfolding final_round
final_past final q small l = by_test (member final q)
    (λ e. let b : q < 64 = small q (record { has = e }) in absurd (omega arith))
    (λ e. rw (final_round, e))

pub refers_parts : (cells : List Cell) (n : ℕ) (c : Cell) → Refers cells n c → PartsBelow n c
refers_parts cells n empty1 x = tt
refers_parts cells n (symbol a u s) x = (x.0, x.1)
refers_parts cells n empty2 x = tt
refers_parts cells n (above w t) x = (x.0, x.1)

get_or_zeros : (n i : ℕ) → get_or (zeros n) i 0 ≡ 0
get_or_zeros n i = sym (ap (λ (l : List ℕ). get_or l i 0) (padded_none n)) ∙ get_or_padded n [] i

module _ (T : Saturated) (B : StatesBelow T.table) where
  -- no stack is accepted from them
  past_none : (u : Annotation) (q : ℕ) → 64 ≤ q → round_of_stack T u q ≡ Never
  unfolding round1 symbol_round above_round
  past_none (of1 nil1) q l = final_past _ q B.final1_below l
  past_none (of1 (cons1 a u s)) q l = earliest_none _ _ (λ i j.
      let (k, m) = places_out _ T.table.moves no_move j in
      let e : (get_or T.table.moves i no_move).state ≡ q = eqb-true _ q (and_left (eqb (get_or T.table.moves i no_move).state q) _ m) in
      let b : (get_or T.table.moves i no_move).state < 64 = B.moves_below i k in
      omega arith)
  past_none (of2 nil2) q l = final_past _ q B.final2_below l
  past_none (of2 (cons2 w t)) q l = earliest_none _ _ (λ i j.
      let (k, m) = places_out _ (edges T.table) no_edge j in
      let e : (get_or (edges T.table) i no_edge).state ≡ q = eqb-true _ q m in
      let b : (get_or (edges T.table) i no_edge).state < 64 = B.edges_below i k in
      omega arith)

  -- ---- the words of the cells before

  module _ (cells : List Cell) {now : List ℕ} {n : ℕ} (R : RoundsStand T cells now n) where
    -- a cell whose words stand, from every state
    pub round_filled : (j : ℕ) → j < n → round_in now j ≡ round_of_stack T (stack_at (stacks cells) j)
    round_filled j l = λ i q. pointwise q i
      where
        pointwise : (q : ℕ) → round_in now j q ≡ round_of_stack T (stack_at (stacks cells) j) q
        pointwise q = by_test (ltb q 64)
            (λ t. let small : q < 64 = ltb-true q 64 t in round_there now j q small ∙ ap acceptance_of (R.word_is j q l small) ∙ acceptance_word _)
            (λ t. let large : 64 ≤ q = ltb-false q 64 t in round_past now j q large ∙ sym (past_none (stack_at (stacks cells) j) q large))

    -- it is accepted exactly if there is a round
    pub cell_won : (j : ℕ) → j < n → (q : ℕ) → is_won (round_in now j q) ≡ accepts_stack T.table (stack_at (stacks cells) j) q
    cell_won j l q = ap (λ (f : ℕ → Acceptance). is_won (f q)) (round_filled j l) ∙ stack_accepts T (stack_at (stacks cells) j) q

    -- ---- one cell more

    -- the answers for cell n, by the words of the cells before, are those for its stack
    cell_right_lem : (c : Cell) → Refers cells n c → (q : ℕ) → n ≤ length cells
        → cell_round T (annotation_order_at cells c) now c q ≡ round_of_stack T (stack_of (stacks cells) c) q
    unfolding cell_round annotation_order_at stack_of round1
    cell_right_lem empty1 x q l = refl
    cell_right_lem (symbol a u s) x q l =
        let first : round_in now u ≡ round_of_stack T (stack_at (stacks cells) u) = round_filled u x.0 in
        let second : round_in now s ≡ round_of_stack T (stack_at (stacks cells) s) = round_filled s x.1 in
        let order : order_at cells u ≡ annotation_order (stack_at (stacks cells) u) = sym (stack_order cells u (omega (arith, x.0))) in
        let rest : stack_at (stacks cells) s ≡ of1 (order1 (stack_at (stacks cells) s)) = annotation_of1 _ (stack_order cells s (omega (arith, x.1)) ∙ x.2) in
        ap (λ (k : ℕ). symbol_round T.sizes a k (round_in now u) (round_in now s) T.table.moves q) order
        ∙ ap₂ (λ (f g : ℕ → Acceptance). symbol_round T.sizes a (annotation_order (stack_at (stacks cells) u)) f g T.table.moves q) first
        (second ∙ ap (round_of_stack T) rest)
    cell_right_lem empty2 x q l = refl
    cell_right_lem (above w t) x q l =
        let first : round_in now w ≡ round_of_stack T (stack_at (stacks cells) w) = round_filled w x.0 in
        let second : round_in now t ≡ round_of_stack T (stack_at (stacks cells) t) = round_filled t x.1 in
        let top : stack_at (stacks cells) w ≡ of1 (order1 (stack_at (stacks cells) w)) = annotation_of1 _ (stack_order cells w (omega (arith, x.0)) ∙ x.2) in
        let rest : stack_at (stacks cells) t ≡ of2 (order2 (stack_at (stacks cells) t)) = annotation_of2 _ (stack_order cells t (omega (arith, x.1)) ∙ x.3) in
        ap₂ (λ (f g : ℕ → Acceptance). above_round f g (edges T.table) q) (first ∙ ap (round_of_stack T) top) (second ∙ ap (round_of_stack T) rest)

  module _ (cells : List Cell) (F : Formed cells) {before now : List ℕ} {n : ℕ} (R : RoundsFilled T cells before now n) where
    pub filled_more : {c : Cell} {k : ℕ} {now' : List ℕ} → n < length cells → c ≡ cell_at cells n → k ≡ annotation_order_at cells c
        → RowPut now n (cell_round T k now c) now' → RoundsFilled T cells before now' (n + 1)
    filled_more {c} {k} {now'} l e o p =
        let here : (q : ℕ) → q < 64 → get_or now' (n * 64 + q) 0 ≡ answer_word (round_of_stack T (stack_at (stacks cells) n) q) =
        λ q h. p.here q h ∙ ap answer_word (ap (λ (j : ℕ). cell_round T j now c q) o
        ∙ ap (λ (d : Cell). cell_round T (annotation_order_at cells d) now d q) e
        ∙ cell_right_lem cells R.filled (cell_at cells n) (F.refers n) q (omega arith)
        ∙ ap (λ (v : Annotation). round_of_stack T v q) (sym (stack_at_lem F n l))) in
        record {
          long = p.long ∙ R.long;
          filled = record {
            word_is = λ i q h small. by_test (eqb i n)
                (λ t.
                let z : i ≡ n = eqb-true i n t in
                ap (λ (j : ℕ). get_or now' (j * 64 + q) 0) z ∙ here q small ∙ ap (λ (j : ℕ). answer_word (round_of_stack T (stack_at (stacks cells) j) q)) (sym z))
                (λ t.
                let d : i ≡ n → ⊥ = eqb-false i n t in
                let b : i < n = omega arith in
                p.below (i * 64 + q) (omega arith) ∙ R.filled.word_is i q b small);
          };
          others = λ x h. p.above x (omega arith) ∙ R.others x (omega arith);
        }

    -- it refers to cells before it
    pub parts_below : {c : Cell} → c ≡ cell_at cells n → PartsBelow n c
    parts_below {c} e = refers_parts cells n c (subst (Refers cells n) (sym e) (F.refers n))

    -- and its words are zero, where all were
    pub next_zero : before ≡ zeros (length before) → RowZero now n
    next_zero z q h = R.others (n * 64 + q) (omega arith) ∙ ap (λ (l : List ℕ). get_or l (n * 64 + q) 0) z ∙ get_or_zeros (length before) (n * 64 + q)

-- ---- none

pub filled_none : (T : Saturated) (cells : List Cell) (rounds : List ℕ) → RoundsFilled T cells rounds rounds 0
filled_none T cells rounds = record { long = refl; filled = record { word_is = λ i q h small. absurd (omega arith) }; others = λ x h. refl }

-- ---- all

pub filled_all : {T : Saturated} {cells : List Cell} {before now : List ℕ} {i n : ℕ} → i ≤ n → n ≤ i → RoundsFilled T cells before now i
    → RoundsFilled T cells before now n
filled_all {T} {cells} {before} {now} l h R = subst (RoundsFilled T cells before now) (omega arith) R

-- ---- what is asked

-- tables that stand name states below 64
pub states_below : {z : Table} {inner entries moves : List ℕ} → TablesNamed z inner entries moves → StatesBelow (automaton_of z inner entries moves)
unfolding edges
states_below {z} {inner} {entries} {moves} h =
    let m : length (rows_in move_row z.moves moves) ≡ z.moves = length_rows_in move_row z.moves moves in
    let e : length (edges_in z inner entries) ≡ z.edges + z.entries = length_edges_in z inner entries in
    record {
      moves_below = λ k l.
          let b : k < z.moves = omega arith in
          move_small h.moves_named b (get_or_rows_in move_row z.moves moves k no_move b);
      edges_below = λ k l. edge_small z inner entries k h.edges_named (omega arith) refl;
      final1_below = h.finals_named.final1_small;
      final2_below = h.finals_named.final2_small;
    }
