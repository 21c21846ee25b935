-- The search begins at the last move of the key, goes on to the one before, and ends where the move is found or the chain ends.
-- Assumes nothing.
use Rattle.std.specs.Prelude.{ℕ, ◌+◌, ◌≤◌, ◌<◌, true, false, ◌≡◌, List, length, ltb}
use Rattle.std.proofs.lemmas.Bool.{false≢true}
use Rattle.std.proofs.Common.{ap, sym, ◌∙◌, subst, arith, ltb-true, ltb-false}
use Rattle.words.specs.Laws.Tests.{by_test}
use Rattle.words.specs.Lists.{some_of}
use Rattle.words.specs.Lists.Laws.{some_of_in, some_of_out, get_or_in, in_get_or}
use Rattle.automata.specs.Automaton.{Move, no_move}
use Rattle.chains.specs.Chains.{last_below}
use Rattle.chains.specs.Chains.Laws.{last_below_lem, last_key, last_none}
use Rattle.tables.specs.Rows.{row_at, rows_in}
use Rattle.tables.specs.Rows.Laws.{length_rows_in, get_or_rows_in}
use Rattle.tables.specs.Layouts.{move_row}
use Rattle.move_index.specs.Keys.{words_key, same_move}
use Rattle.move_index.specs.Keys.Laws.{same_moves}
use Rattle.move_index.specs.Search.{words_key_at, Missed}

module _ (moves : List ℕ) (n : ℕ) (m : Move) where
  -- a move with another key is not m
  other_key : (i : ℕ) → (words_key_at moves i ≡ words_key m → ⊥) → same_move m (row_at move_row moves i) ≡ false
  other_key i h =
      by_test (same_move m (row_at move_row moves i)) {X = same_move m (row_at move_row moves i) ≡ false}
      (λ t. absurd (h (ap words_key (sym (same_moves m (row_at move_row moves i) t))))) (λ f. f)

  -- the last move of the key
  pub missed_start : (k c : ℕ) → k ≡ words_key m → c ≡ last_below (words_key_at moves) k n → Missed moves n m c
  missed_start k c q e =
      let b : last_below (words_key_at moves) k n ≤ n = last_below_lem (words_key_at moves) k n in
      record {
        within = omega arith;
        keyed = λ i s. (last_key (words_key_at moves) k n i (sym e ∙ s)).1 ∙ q;
        differ = λ i l h. other_key i (λ s. last_none (words_key_at moves) k n i (omega arith) h (s ∙ sym q));
      }

  -- the move before a move that is not m
  pub missed_more : (j r : ℕ) → Missed moves n m (j + 1) → same_move m (row_at move_row moves j) ≡ false
      → r ≡ last_below (words_key_at moves) (words_key_at moves j) j → Missed moves n m r
  missed_more j r w f e =
      let l : j + 1 ≤ n = w.within in
      let b : last_below (words_key_at moves) (words_key_at moves j) j ≤ j = last_below_lem (words_key_at moves) (words_key_at moves j) j in
      let q : words_key_at moves j ≡ words_key m = w.keyed j (omega arith) in
      record {
        within = omega arith;
        keyed = λ i s. (last_key (words_key_at moves) (words_key_at moves j) j i (sym e ∙ s)).1 ∙ q;
        differ =
            λ i x h. by_test (ltb i j)
            (λ t. let y : i < j = ltb-true i j t in
            other_key i (λ s. last_none (words_key_at moves) (words_key_at moves j) j i (omega arith) y (s ∙ sym q)))
            (λ t. let y : j ≤ i = ltb-false i j t in
            by_test (ltb i (j + 1))
            (λ t. let v : i < j + 1 = ltb-true i (j + 1) t in
            let z : j ≡ i = omega arith in
            subst (λ (k : ℕ). same_move m (row_at move_row moves k) ≡ false) z f)
            (λ t. w.differ i (ltb-false i (j + 1) t) h));
      }

  -- move i is m
  pub search_found : (i : ℕ) → i < n → same_move m (row_at move_row moves i) ≡ true → true ≡ some_of (same_move m) (rows_in move_row n moves)
  search_found i h e =
      let l : length (rows_in move_row n moves) ≡ n = length_rows_in move_row n moves in
      sym
      (some_of_in (same_move m) (get_or_in (rows_in move_row n moves) i no_move (omega arith))
      (ap (same_move m) (get_or_rows_in move_row n moves i no_move h) ∙ e))

  -- the chain ends
  pub search_none : (c : ℕ) → Missed moves n m c → c ≤ 0 → false ≡ some_of (same_move m) (rows_in move_row n moves)
  search_none c w z =
      by_test (some_of (same_move m) (rows_in move_row n moves)) {X = false ≡ some_of (same_move m) (rows_in move_row n moves)}
      (λ t. let (x, j, y) = some_of_out (same_move m) (rows_in move_row n moves) t in
      let (i, b, g) = in_get_or j in
      let l : i < n = subst (λ (k : ℕ). i < k) (length_rows_in move_row n moves) b in
      let e : row_at move_row moves i ≡ x = sym (get_or_rows_in move_row n moves i no_move l) ∙ g no_move in
      absurd (false≢true (sym (w.differ i (omega arith) l) ∙ ap (same_move m) e ∙ y)))
      (λ f. sym f)
