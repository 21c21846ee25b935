-- The walk begins at the last move of the key, goes on to the one before, and ends where a choice changes the joins or the chain ends.
-- Assumes nothing.
use Rattle.std.specs.Prelude.{ℕ, ◌+◌, ◌-◌, ◌≤◌, ◌<◌, ◌&&◌, ◌≡◌, length, eqb, ltb}
use Rattle.std.proofs.Math.Path.{ap}
use Rattle.std.proofs.Common.{ap₂, sym, ◌∙◌, subst, arith, eqb-true, eq-eqb, ltb-true, ltb-false}
use Rattle.std.proofs.Math.Option.{none, some, none-ne-some}
use mathlib.Core.List.{List, Memᴰ}
use Rattle.std.proofs.Math.ListN.{get_or}
use Rattle.words.specs.Laws.Tests.{by_test, and_left, and_right}
use Rattle.automata.specs.Automaton.{Automaton, Move, no_move, moves_of, move_at}
use Rattle.automata.specs.Automaton.Laws.{MoveOf, moves_of_out, moves_of_in}
use Rattle.automata.specs.Derivation.{Joins, join_move}
use Rattle.chains.specs.Chains.{last_below}
use Rattle.chains.specs.Chains.Laws.{last_below_lem, last_key, last_none}
use Rattle.tables.specs.Rows.{row_at, rows_in}
use Rattle.tables.specs.Rows.Laws.{length_rows_in, get_or_rows_in}
use Rattle.tables.specs.Layouts.{move_row}
use Rattle.move_index.specs.Keys.{state_key, state_key_at}
use Rattle.joins.specs.Joining.{candidate_of}
use Rattle.joins.specs.Joining.Laws.{candidate_yes, candidate_no}
use Rattle.choices.specs.Unchanged.{Unchanged, choice_at, Walked}

-- ---- choices

-- a move that is a choice is one of state q on symbol a
choice_of_lem : (q a : ℕ) (j : Joins) (m : Move) {k : Joins} → candidate_of q a j m ≡ some k → (m.state ≡ q) × (m.symbol ≡ a) × (join_move j m ≡ some k)
choice_of_lem q a j m {k} e =
    by_test (eqb m.state q && eqb m.symbol a)
    (λ t. (
      eqb-true _ _ (and_left (eqb m.state q) _ t),
      eqb-true _ _ (and_right (eqb m.state q) _ t),
      sym (candidate_yes j m q a t) ∙ e,
    ))
    (λ f. absurd (none-ne-some k (sym (candidate_no j m q a f) ∙ e)))

-- a choice has the key of its state and symbol
choice_key_lem : (moves : List ℕ) (q a : ℕ) (j : Joins) (i : ℕ) {k : Joins} → choice_at moves q a j i ≡ some k → state_key_at moves i ≡ state_key q a
choice_key_lem moves q a j i e = let (s, x, _) = choice_of_lem q a j (row_at move_row moves i) e in ap₂ state_key s x

-- ---- the walk

module _ (moves : List ℕ) (n q a : ℕ) (j : Joins) where
  -- the last move of the key
  pub walked_start : (k c : ℕ) → k ≡ state_key q a → c ≡ last_below (state_key_at moves) k n → Walked moves n q a j c 0
  walked_start k c s e =
      let b : last_below (state_key_at moves) k n ≤ n = last_below_lem (state_key_at moves) k n in
      record {
        within = omega arith;
        keyed = λ i z. (last_key (state_key_at moves) k n i (sym e ∙ z)).1 ∙ s;
        leave = λ i l h x z. absurd (last_none (state_key_at moves) k n i (omega arith) h (choice_key_lem moves q a j i z ∙ sym s));
        old = omega arith;
        one = λ h. absurd (omega arith);
      }

  -- The move before a move that is no choice or leaves j as it is: r is its number plus 1, and the oldest choice is a new one or the same.
  walked_before : (m r oldest old' : ℕ) → Walked moves n q a j (m + 1) oldest
      → ((k : Joins) → choice_at moves q a j m ≡ some k → k ≡ j) → old' ≤ n → (0 < old' → choice_at moves q a j (old' - 1) ≡ some j)
      → r ≡ last_below (state_key_at moves) (state_key_at moves m) m → Walked moves n q a j r old'
  walked_before m r oldest old' w f o x e =
      let l : m + 1 ≤ n = w.within in
      let b : last_below (state_key_at moves) (state_key_at moves m) m ≤ m = last_below_lem (state_key_at moves) (state_key_at moves m) m in
      let k : state_key_at moves m ≡ state_key q a = w.keyed m (omega arith) in
      record {
        within = omega arith;
        keyed = λ i z. (last_key (state_key_at moves) (state_key_at moves m) m i (sym e ∙ z)).1 ∙ k;
        leave =
            λ i u h g z. by_test (ltb i m)
            (λ t. let y : i < m = ltb-true i m t in
            absurd (last_none (state_key_at moves) (state_key_at moves m) m i (omega arith) y (choice_key_lem moves q a j i z ∙ sym k)))
            (λ t. let y : m ≤ i = ltb-false i m t in
            by_test (ltb i (m + 1))
            (λ t. let v : i < m + 1 = ltb-true i (m + 1) t in
            let d : i ≡ m = omega arith in
            f g (ap (choice_at moves q a j) (sym d) ∙ z))
            (λ t. w.leave i (ltb-false i (m + 1) t) h g z));
        old = o;
        one = x;
      }

  -- move m is no choice
  pub walked_other : (m r oldest old' : ℕ) → Walked moves n q a j (m + 1) oldest → choice_at moves q a j m ≡ none → old' ≡ oldest
      → r ≡ last_below (state_key_at moves) (state_key_at moves m) m → Walked moves n q a j r old'
  walked_other m r oldest old' w f o e =
      subst (λ (i : ℕ). Walked moves n q a j r i) (sym o)
      (walked_before m r oldest oldest w (λ k z. absurd (none-ne-some k (sym f ∙ z))) w.old w.one e)

  -- move m is a choice that leaves j as it is
  pub walked_choice : (m r oldest old' : ℕ) (k : Joins) → Walked moves n q a j (m + 1) oldest → choice_at moves q a j m ≡ some k
      → k ≡ j → old' ≡ m + 1 → r ≡ last_below (state_key_at moves) (state_key_at moves m) m → Walked moves n q a j r old'
  walked_choice m r oldest old' k w f z o e =
      let d : m + 1 - 1 ≡ m = omega arith in
      subst (λ (i : ℕ). Walked moves n q a j r i) (sym o)
      (walked_before m r oldest (m + 1) w (λ g y. cc) w.within (λ h. ap (choice_at moves q a j) d ∙ f ∙ ap some z) e)

-- ---- the answers

-- a choice changes j
pub unchanged_no : (A : Automaton) (q a : ℕ) (j : Joins) → Unchanged A q a j 0
unchanged_no A q a j = record { all_leave = λ h. absurd (omega arith); one_leaves = λ h. absurd (omega arith) }

module _ (A : Automaton) (moves : List ℕ) (n : ℕ) (e : A.moves ≡ rows_in move_row n moves) where
  same_length : length A.moves ≡ n
  same_length = ap length e ∙ length_rows_in move_row n moves

  same_move_lem : (i : ℕ) → i < n → move_at A i ≡ row_at move_row moves i
  unfolding move_at
  same_move_lem i h = ap (λ (l : List Move). get_or l i no_move) e ∙ get_or_rows_in move_row n moves i no_move h

  -- a move of state q on symbol a that joins is a choice
  of_choice : (q a : ℕ) (j : Joins) (i : ℕ) {k : Joins} → Memᴰ i (moves_of A q a) → join_move j (move_at A i) ≡ some k
      → (i < n) × (choice_at moves q a j i ≡ some k)
  of_choice q a j i m h =
      let o : MoveOf A a q i = moves_of_out A q a m in
      let b : i < length A.moves = o.below in
      let z : length A.moves ≡ n = same_length in
      let l : i < n = omega arith in
      let s : move_at A i ≡ row_at move_row moves i = same_move_lem i l in
      (l, ap (candidate_of q a j) (sym s) ∙ candidate_yes j (move_at A i) q a (ap₂ ◌&&◌ (eq-eqb _ _ o.state_is) (eq-eqb _ _ o.symbol_is)) ∙ h)

  -- and a choice is such a move
  choice_in_lem : (q a : ℕ) (j : Joins) (i : ℕ) {k : Joins} → i < n → choice_at moves q a j i ≡ some k
      → Memᴰ i (moves_of A q a) × (join_move j (move_at A i) ≡ some k)
  choice_in_lem q a j i l h =
      let (s, x, y) = choice_of_lem q a j (row_at move_row moves i) h in
      let z : length A.moves ≡ n = same_length in
      let m : move_at A i ≡ row_at move_row moves i = same_move_lem i l in (
        moves_of_in A (record { below = omega arith; state_is = ap (λ (v : Move). v.state) m ∙ s; symbol_is = ap (λ (v : Move). v.symbol) m ∙ x }),
        ap (join_move j) m ∙ y,
      )

  -- the chain ends
  pub unchanged_end : (q a : ℕ) (j : Joins) (c oldest : ℕ) → Walked moves n q a j c oldest → c ≤ 0 → Unchanged A q a j oldest
  unchanged_end q a j c oldest w z =
      record {
        all_leave = λ h i m k y. let (l, x) = of_choice q a j i m y in w.leave i (omega arith) l k x;
        one_leaves = λ h. let o : oldest ≤ n = w.old in choice_in_lem q a j (oldest - 1) (omega arith) (w.one h);
      }
