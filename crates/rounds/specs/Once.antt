-- Each move once: rounds keep it, and an automaton that holds each entry and each move once has no more of them than one that contains it.
-- Assumes nothing.
use Rattle.std.specs.Prelude.{ℕ, zero, suc, ◌+◌, ◌-◌, ◌≤◌, ◌<◌, true, false, ◌≡◌, refl, length, get_or, ltb}
use Rattle.std.proofs.lemmas.Bool.{false≢true}
use Rattle.std.proofs.Common.{ap, sym, ◌∙◌, subst, add-zero, le_of_suc-le-suc, arith, ltb-true, ltb-false}
use mathlib.Core.List.{List, [], ◌∷◌, Memᴰ}
use Rattle.words.proofs.Sets.Laws.{Has, has_part, part_antisym}
use Rattle.words.specs.Laws.Tests.{by_test}
use Rattle.words.specs.Lists.{only}
use Rattle.words.specs.Lists.Laws.{get_or_in}
use Rattle.words.specs.Lists.Once.{once_shorter}
use Rattle.words.specs.Order.{rising}
use Rattle.words.specs.Order.Laws.{sorted_rising}
use Rattle.words.specs.Order.Rising.{rising_once}
use Rattle.stacks.specs.System.{Rule}
use Rattle.automata.specs.Automaton.{Automaton, Move, Entry, no_move, no_entry, entry_key, move_at}
use Rattle.automata.specs.Derivation.{Result, result_key, result_of}
use Rattle.automata.specs.Saturation.{held, add, add_all, extend, results, round, table_after, Size, within}
use Rattle.automata.proofs.Saturation.Laws.{StandsFor, stands_result, stands_held, stands_kept}
use Rattle.automata.specs.Facts.{RuleFacts, TableFacts, Extends, Once, states}
use Rattle.automata.specs.Facts.Laws.{move_at_facts, move_at_kept, entry_is_own}
use Rattle.rounds.specs.Added.{added, added_out, add_length, add_stands, add_all_extends, add_all_length}
use Rattle.rounds.specs.Kept.{after_facts}
use Rattle.rounds.specs.Limits.{KeepsLimits, within_keeps, keeps_within}
use Rattle.rounds.specs.Contains.{Matched, SameIn, SameMove, Contains}
use Rattle.rounds.specs.Contains.Laws.{same_injective}
use Rattle.rounds.specs.LeastClosed.{MovesOnce}

-- ---- rounds

-- the moves that are appended stand for the results in their order
add_all_at : (A : Automaton) (xs : List Result) (d : Result) (k : ℕ) → k < length xs → StandsFor (add_all A xs) (length A.moves + k) (get_or xs k d)
unfolding add_all
add_all_at A [] d k h = absurd (omega arith)
add_all_at A (x ∷ xs) d zero h =
    stands_kept (add_all_extends (add A x) xs) (subst (λ (i : ℕ). StandsFor (add A x) i x) (sym (add-zero (length A.moves))) (add_stands A x))
add_all_at A (x ∷ xs) d (suc k) h =
    let l : length (add A x).moves ≡ suc (length A.moves) = add_length A x in
    let e : length (add A x).moves + k ≡ length A.moves + suc k = omega arith in
    subst (λ (i : ℕ). StandsFor (add_all (add A x) xs) i (get_or xs k d)) e (add_all_at (add A x) xs d k (le_of_suc-le-suc h))

-- a move that stands for a result which was not held is none of the moves that were there
new_apart : {P : ℕ} {A C : Automaton} → TableFacts P A → Extends A C → {x : Result} → held A x ≡ false → {i : ℕ} → StandsFor C i x
    → (j : ℕ) → j < length A.moves → move_at C i ≡ move_at C j → ⊥
new_apart {A = A} {C = C} F y {x} n {i} s j l e =
    let k : move_at C i ≡ move_at A j = e ∙ move_at_kept y j l in
    let z : (move_at C i).state ≡ C.J + s.move.entry = s.move.state_is in
    let q : (move_at C i).state ≡ (move_at A j).state = ap (λ (m : Move). m.state) k in
    let p : C.J ≡ A.J = y.same_J in
    let g : (move_at A j).state < states A = (move_at_facts F j l).state_exists in
    let h : StandsFor A j x = record {
      move = record {
        below = l;
        symbol_is = ap (λ (m : Move). m.symbol) (sym k) ∙ s.move.symbol_is;
        entry = s.move.entry;
        state_is = omega arith;
        entry_is = entry_is_own y (omega arith) s.move.entry_is;
      };
      order_is = ap (λ (m : Move). m.order) (sym k) ∙ s.order_is;
      B-is = ap (λ (m : Move). m.B) (sym k) ∙ s.B-is;
      R-is = ap (λ (m : Move). m.R) (sym k) ∙ s.R-is;
    } in
    false≢true (sym n ∙ stands_held A h)

-- adding results that are not held, each once, keeps each move once
add_all_moves_once : {P : ℕ} {A : Automaton} → TableFacts P A → MovesOnce A → (xs : List Result) → rising result_key xs ≡ true
    → ((x : Result) → Memᴰ x xs → held A x ≡ false) → MovesOnce (add_all A xs)
add_all_moves_once {P} {A} F once xs r new i j hi hj e =
    by_test (ltb i n)
    (λ s. by_test (ltb j n)
    (λ t. once i j (ltb-true i n s) (ltb-true j n t) (sym (move_at_kept x i (ltb-true i n s)) ∙ e ∙ move_at_kept x j (ltb-true j n t)))
    (λ t. absurd (apart j i (ltb-false j n t) hj (ltb-true i n s) (sym e))))
    (λ s. by_test (ltb j n)
    (λ t. absurd (apart i j (ltb-false i n s) hi (ltb-true j n t) e))
    (λ t. both (ltb-false i n s) (ltb-false j n t)))
  where
    n : ℕ
    n = length A.moves

    C : Automaton
    C = add_all A xs

    x : Extends A C
    x = add_all_extends A xs

    d : Result
    d = result_of A no_move

    place : (k : ℕ) → n ≤ k → k < length C.moves → k - n < length xs
    place k l h = let z : length C.moves ≡ n + length xs = add_all_length A xs in omega arith

    stands : (k : ℕ) → n ≤ k → k < length C.moves → StandsFor C k (get_or xs (k - n) d)
    stands k l h =
        let z : n + (k - n) ≡ k = omega arith in
        subst (λ (m : ℕ). StandsFor C m (get_or xs (k - n) d)) z (add_all_at A xs d (k - n) (place k l h))

    apart : (k m : ℕ) → n ≤ k → k < length C.moves → m < n → move_at C k ≡ move_at C m → ⊥
    apart k m l h g = new_apart F x (new (get_or xs (k - n) d) (get_or_in xs (k - n) d (place k l h))) (stands k l h) m g

    both : n ≤ i → n ≤ j → i ≡ j
    both li lj =
        let z : get_or xs (i - n) d ≡ get_or xs (j - n) d =
        sym (stands_result C (stands i li hi)) ∙ ap (result_of C) e ∙ stands_result C (stands j lj hj) in
        let q : i - n ≡ j - n = rising_once result_key xs d (i - n) (j - n) r (place i li hi) (place j lj hj) (ap result_key z) in
        omega arith

-- a round adds only results that are not yet held, each once
round_moves_once : (rules : List Rule) {P : ℕ} {A : Automaton} → TableFacts P A → MovesOnce A → MovesOnce (round rules A)
unfolding round extend
round_moves_once rules {A = A} F once =
    add_all_moves_once F once (added A (results rules A)) (sorted_rising result_key (only _ (results rules A))) (λ x j. (added_out A (results rules A) j).1)

-- so each move is there once after any number of rounds
pub after_moves_once : {P : ℕ} (rules : List Rule) → ((ρ : Rule) → Memᴰ ρ rules → RuleFacts P ρ) → {own : Automaton} → TableFacts P own → MovesOnce own
    → (n : ℕ) → MovesOnce (table_after rules own n)
unfolding table_after
after_moves_once rules f F once zero = once
after_moves_once rules f F once (suc n) = round_moves_once rules (after_facts rules f F n) (after_moves_once rules f F once n)

-- ---- no more moves and entries than what contains them

-- sets whose members are matched with those of one set, by a relation that gives no member to two, are equal
matched_injective : {X : ℕ → ℕ → Type 0} → ((n m k : ℕ) → X n k → X m k → n ≡ m) → {a b c : ℕ} → Matched X a c → Matched X b c → a ≡ b
matched_injective {X} alone {a} {b} {c} x y =
    part_antisym a b
    (has_part (λ n h. let (k, i, z) = x.forth n h in let (m, j, w) = y.back k i in subst (Has b) (alone m n k w z) j))
    (has_part (λ n h. let (k, i, z) = y.forth n h in let (m, j, w) = x.back k i in subst (Has a) (alone m n k w z) j))

module _ (A C : Automaton) (j : C.J ≡ A.J) (once : Once A.entries) where
  -- no member of an annotation set is the same as two
  same_in_injective : (o n m k : ℕ) → SameIn A C o n k → SameIn A C o m k → n ≡ m
  same_in_injective zero n m k x y = absurd x
  same_in_injective (suc zero) n m k x y = same_injective j once x y
  same_in_injective (suc (suc o)) n m k x y = x ∙ sym y

  -- no move is the same as two
  same_move_injective : (m n k : Move) → SameMove A C m k → SameMove A C n k → m ≡ n
  same_move_injective m n k x y =
      let o : n.order ≡ m.order = sym y.order_same ∙ x.order_same in
      let e : m.state ≡ n.state = same_injective j once x.state_same y.state_same in
      let b : m.B ≡ n.B = matched_injective (same_in_injective m.order) x.annotation_same
      (subst (λ (o : ℕ). Matched (SameIn A C o) n.B k.B) o y.annotation_same) in
      let r : m.R ≡ n.R = matched_injective (λ p q s u v. same_injective j once u v) x.rest_same y.rest_same in
      let s : m.symbol ≡ n.symbol = sym x.symbol_same ∙ y.symbol_same in
      λ i. record { state = e i; symbol = s i; order = sym o i; B = b i; R = r i }

module _ {A C : Automaton} (once : Once A.entries) where
  -- each entry is an entry of what contains it
  pub contains_entries : Contains A C → length A.entries ≤ length C.entries
  contains_entries c =
      once_shorter (λ (x y : Entry). x ≡ y) no_entry A.entries C.entries
      (λ i j hi hj e. once i j hi hj (ap entry_key e))
      (λ x i. (x, c.entries_in x i, refl))
      (λ x z y p q. p ∙ sym q)

  -- each move has its like, and no two have one
  pub contains_moves : MovesOnce A → Contains A C → length A.moves ≤ length C.moves
  unfolding move_at
  contains_moves moves_once c =
      once_shorter (SameMove A C) no_move A.moves C.moves moves_once c.moves_in_holds (same_move_injective A C c.same_J once)

  -- so it keeps the limits that such an automaton keeps
  pub within_contained : (lent : Size) → MovesOnce A → Contains A C → within lent C ≡ true → within lent A ≡ true
  within_contained lent moves_once c h =
      let f : KeepsLimits lent C = within_keeps lent C h in
      let m : length A.moves ≤ length C.moves = contains_moves moves_once c in
      let e : length A.entries ≤ length C.entries = contains_entries c in
      let j : C.J ≡ A.J = c.same_J in
      keeps_within lent A (record {
        moves_fit = let l = f.moves_fit in omega arith;
        entries_fit = let l = f.entries_fit in omega arith;
        states_fit = let l : states C ≤ 64 = f.states_fit in omega arith;
      })
