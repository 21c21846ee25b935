-- "Each cell and each state accepting it gets the choice of least number: the edge with least order-1 state, then least S; the least
-- move." The least choice is among the state's moves or edges, fits, and none of them that fits is before it.
-- Assumes nothing.
use Rattle.std.specs.Prelude.{ℕ, ◌≤◌, ◌<◌, true, ◌≡◌, ◌⊎◌}
use Rattle.std.proofs.Common.{sym, ◌∙◌, inl, inr, ⊎_elim, le_of_eq, arith}
use mathlib.Core.List.Memᴰ
use mathlib.Core.List.{List, [], ◌∷◌, Memᴰ}
use Rattle.words.specs.Lists.Laws.{only_in, only_out, places_rising}
use Rattle.words.specs.Order.{less, rising}
use Rattle.words.specs.Order.Laws.{one_less, rising_cons, rising_from_less, rising_only}
use Rattle.stacks.specs.Stack.{Stack1, cons1, Stack2, cons2, Annotation, of1, of2}
use Rattle.automata.specs.Automaton.{Automaton, choice_key, edges, edge_at, move_at, edges_of, moves_of}
use Rattle.automata.specs.Acceptance.{move_fits, edge_fits}
use Rattle.automata.specs.Facts.{TableFacts}
use Rattle.walks.specs.Guide.{first_or_zero, least_choice}
use Rattle.rounds.specs.LeastChoice.{edges_of_rising}
use Rattle.soundness.specs.Choices.{first_in}

-- Of a state r and a stack with top symbol a, annotation u and rest s: move l is a fitting move of r, and not after move i.
pub record LeastMove (A : Automaton) (a : ℕ) (u : Annotation) (s : Stack1) (r l i : ℕ) : Type 0 where
  pub at_most : l ≤ i
  pub among : Memᴰ l (moves_of A r a)
  pub fits : move_fits A u s (move_at A l) ≡ true

-- Of a state q and a stack with top w and rest t: edge l is a fitting edge of q, not after edge e, and it is e or has the lesser order-1
-- state, or the same and the lesser S.
pub record LeastEdge (A : Automaton) (w : Stack1) (t : Stack2) (q l e : ℕ) : Type 0 where
  pub at_most : l ≤ e
  pub least : (l ≡ e) ⊎ (less (choice_key (edge_at A l)) (choice_key (edge_at A e)) ≡ true)
  pub among : Memᴰ l (edges_of A q)
  pub fits : edge_fits A w t (edge_at A l) ≡ true

-- ---- the first of a rising list

-- the first number of a list that rises by a key is before all others by that key
first_before : (key : ℕ → List ℕ) (l : List ℕ) {n : ℕ} → rising key l ≡ true → Memᴰ n l
    → (first_or_zero l ≡ n) ⊎ (less (key (first_or_zero l)) (key n) ≡ true)
unfolding first_or_zero
first_before key [] r j = absurd (Memᴰ.not-nil j)
first_before key (x ∷ l) r j = ⊎_elim (λ e. inl (sym e)) (λ i. inr (rising_from_less key x l (sym (rising_cons key x l) ∙ r) i)) (Memᴰ.cases_cons j)

-- the first of rising numbers is at most each of them
first_at_most : (l : List ℕ) {n : ℕ} → rising (λ m. m ∷ []) l ≡ true → Memᴰ n l → first_or_zero l ≤ n
first_at_most l {n} r j = ⊎_elim
    (λ e. le_of_eq e)
    (λ h. let k : first_or_zero l < n = one_less (first_or_zero l) n h in omega arith)
    (first_before (λ m. m ∷ []) l r j)

-- ---- the least choices

-- The least choice of a state for a stack with a top symbol is its least move that fits.
pub least_move : (A : Automaton) (a : ℕ) (u : Annotation) (s : Stack1) (r i : ℕ) → Memᴰ i (moves_of A r a) → move_fits A u s (move_at A i) ≡ true
    → LeastMove A a u s r (least_choice A (of1 (cons1 a u s)) r) i
unfolding least_choice moves_of
least_move A a u s r i j f =
    let k = only_in (λ n. move_fits A u s (move_at A n)) j f in
    let o = only_out (λ n. move_fits A u s (move_at A n)) (moves_of A r a) (first_in k) in
    record {
      at_most = first_at_most _ (rising_only (λ n. n ∷ []) _ (moves_of A r a) (places_rising _ A.moves)) k;
      among = o.0;
      fits = o.1;
    }

-- The least choice of a state for a nonempty order-2 stack is its least edge that fits, the one with the least order-1 state, then the
-- least S.
pub least_edge : {P : ℕ} {A : Automaton} → TableFacts P A → (w : Stack1) (t : Stack2) (q e : ℕ) → Memᴰ e (edges_of A q)
    → edge_fits A w t (edge_at A e) ≡ true → LeastEdge A w t q (least_choice A (of2 (cons2 w t)) q) e
unfolding least_choice edges_of
least_edge {P} {A} F w t q e j f =
    let k = only_in (λ n. edge_fits A w t (edge_at A n)) j f in
    let o = only_out (λ n. edge_fits A w t (edge_at A n)) (edges_of A q) (first_in k) in
    record {
      at_most = first_at_most _ (rising_only (λ n. n ∷ []) _ (edges_of A q) (places_rising _ (edges A))) k;
      least = first_before (λ n. choice_key (edge_at A n)) _ (rising_only (λ n. choice_key (edge_at A n)) _ (edges_of A q) (edges_of_rising F q)) k;
      among = o.0;
      fits = o.1;
    }
