-- Rounds keep the bounds of a table: they name no other symbols and order-2 states, and no order-1 states that are not there.
-- Assumes nothing.
use Prim.Native.Nat.{ℕ, zero, suc, ◌+◌, ◌≤◌, ◌<◌, max}
use Rattle.std.specs.Prelude.{false, ◌≡◌, refl, length, get_or, ltb}
use Rattle.std.proofs.Common.{ap, sym, ◌∙◌, le_refl, le_trans, arith, ltb-true, ltb-false}
use Rattle.std.proofs.Math.Path.{subst}
use Rattle.std.proofs.Math.Logic.{⊎_elim}
use Rattle.std.proofs.Math.Option.{some}
use mathlib.Core.List.Memᴰ
use mathlib.Core.List.{List, [], ◌∷◌, map, Memᴰ}
use Rattle.std.proofs.Math.ListN.{get_or-eq_default}
use Rattle.words.specs.Laws.Tests.{by_test}
use Rattle.words.specs.Lists.Laws.{get_or_in, get_elem?_in}
use Rattle.words.proofs.Sets.Laws.{All, all_empty, all_join, all_single}
use Rattle.stacks.specs.Stack.{Operation, rewrite, push1, push2, copy, pop1, pop2, collapse1, collapse2}
use Rattle.stacks.specs.System.{Rule}
use Rattle.automata.specs.Automaton.{Automaton, Move, Edge, no_move, no_edge, no_entry, edges, edge_at, move_at}
use Rattle.automata.specs.Automaton.Laws.{EntryIs, move_at_in, edge_at_inner, edge_cases, entry_edge_lem}
use Rattle.automata.specs.Derivation.{Result, Derivation, derivations, Joins, joins_of, clash, join_all}
use Rattle.automata.specs.Derivation.Joining.{Fits, both, clash_fits, join_moves_keeps, at_numbers, edge_sets_all}
use Rattle.automata.proofs.Derivation.Laws.{Concludes, Says, Derives, derivations_out}
use Rattle.automata.specs.Derivation.Numbers.{paired_state}
use Rattle.automata.specs.Saturation.{add, add_all, extend, results, round, table_after}
use Rattle.automata.proofs.Saturation.Laws.{results_out}
use Rattle.automata.specs.Facts.{RuleBounded, MoveBounded, Bounded, of_order, states}
use Rattle.automata.specs.Facts.Laws.{states_grow}
use Rattle.rounds.specs.Added.{new_move, added, added_out, add_extends}
use Rattle.rounds.specs.Entries.{with_entry_out}

-- ---- joins and results

-- of joined sets, where there are Q order-2 and n order-1 states
pub record JoinsBounded (Q n : ℕ) (j : Joins) : Type 0 where
  pub annotation_below : All j.B (λ q. q < of_order Q n j.order)
  pub rest_below : All j.R (λ r. r < n)

-- of a result
pub record ResultBounded (Q K n : ℕ) (x : Result) : Type 0 where
  pub set_below : All x.S (λ q. q < Q)
  pub symbol_below : x.symbol < K
  pub joins : JoinsBounded Q n (record { order = x.order; B = x.B; R = x.R })

-- with more order-1 states there are no fewer of any order
of_order_more : (Q : ℕ) {n m : ℕ} (k : ℕ) → n ≤ m → of_order Q n k ≤ of_order Q m k
of_order_more Q zero h = omega arith
of_order_more Q (suc zero) h = h
of_order_more Q (suc (suc k)) h = omega arith

move_bounded_more : {Q K n k : ℕ} {m : Move} → n ≤ k → MoveBounded Q K n m → MoveBounded Q K k m
move_bounded_more {Q} {m = m} h f =
    record {
      symbol_below = f.symbol_below;
      annotation_below = λ q i. le_trans (f.annotation_below q i) (of_order_more Q m.order h);
      rest_below = λ r i. le_trans (f.rest_below r i) h;
    }

-- an annotation of order 0 or o is one of order o
fits_below : (Q n o k : ℕ) {B : ℕ} → Fits o k → All B (λ q. q < of_order Q n k) → All B (λ q. q < of_order Q n o)
fits_below Q n o k {B} f a = ⊎_elim
    (λ z q i. let l : q < 0 = subst (λ (x : ℕ). q < of_order Q n x) z (a q i) in absurd (omega arith))
    (λ z q i. subst (λ (x : ℕ). q < of_order Q n x) z (a q i))
    f

both_bounded : {Q n : ℕ} (j : Joins) (m : Move) → clash j.order m.order ≡ false → JoinsBounded Q n j → JoinsBounded Q n (joins_of m) → JoinsBounded Q n (both j m)
both_bounded {Q} {n} j m c x y =
    let f = clash_fits j.order m.order c in
    let o : ℕ = max j.order m.order in
    record {
      annotation_below = all_join (fits_below Q n o j.order f.0 x.annotation_below) (fits_below Q n o m.order f.1 y.annotation_below);
      rest_below = all_join x.rest_below y.rest_below;
    }

module _ {Q K : ℕ} {A : Automaton} (F : Bounded Q K A) where
  -- ---- moves, entries and edges by number

  -- also of the move past the last
  move_at_bounded : (i : ℕ) → JoinsBounded Q (states A) (joins_of (move_at A i))
  unfolding move_at
  move_at_bounded i = by_test (ltb i (length A.moves))
      (λ t.
      let f = F.move_below (move_at A i) (move_at_in A i (ltb-true i (length A.moves) t)) in
      record { annotation_below = f.annotation_below; rest_below = f.rest_below })
      (λ t. rw (get_or-eq_default A.moves no_move (ltb-false i (length A.moves) t))
      (record { annotation_below = all_empty _; rest_below = all_empty _ }))

  entry_bounded : {p S e : ℕ} → EntryIs A p S e → All S (λ q. q < Q)
  entry_bounded {e = e} h = subst (λ (S : ℕ). All S (λ q. q < Q)) h.set_is (F.entry_below (get_or A.entries e no_entry) (get_or_in A.entries e no_entry h.below))

  edge_bounded : (i : ℕ) → i < length (edges A) → All (edge_at A i).S (λ q. q < Q)
  edge_bounded i h = ⊎_elim
      (λ l. subst (λ (e : Edge). All e.S (λ q. q < Q)) (sym (edge_at_inner A i l)) (F.inner_below (get_or A.inner i no_edge) (get_or_in A.inner i no_edge l)))
      (λ x.
      let h : EntryIs A (get_or A.entries x.0 no_entry).control (get_or A.entries x.0 no_entry).S x.0 = record { below = x.1; control_is = refl; set_is = refl } in
      subst (λ (S : ℕ). All S (λ q. q < Q)) (sym (ap (λ (k : ℕ). (edge_at A k).S) x.2 ∙ (entry_edge_lem A h).set_is)) (entry_bounded h))
      (edge_cases A i h)

  joined_bounded : {j k : Joins} (ms : List ℕ) → JoinsBounded Q (states A) j → join_all A j ms ≡ some k → JoinsBounded Q (states A) k
  unfolding join_all
  joined_bounded {j} ms x h = join_moves_keeps (JoinsBounded Q (states A)) j (map (λ i. move_at A i) ms) h x (λ i m l c y.
      both_bounded i m c y (at_numbers A (λ n. JoinsBounded Q (states A) (joins_of n)) ms (λ k z. move_at_bounded k) m l))

  -- ---- what a derivation concludes

  none_bounded : (R : ℕ) → All R (λ r. r < states A) → JoinsBounded Q (states A) (record { order = 0; B = 0; R = R })
  none_bounded R f = record { annotation_below = all_empty _; rest_below = f }

  concluded_bounded : {ρ : Rule} {premise es ms : List ℕ} {S : ℕ} {j : Joins} {d : Derivation} → RuleBounded Q K ρ → Concludes ρ premise es ms S j d
      → All S (λ q. q < Q) → JoinsBounded Q (states A) j → ResultBounded Q K (states A) d.result
  concluded_bounded r c s f =
      record { set_below = rw c.set_is s; symbol_below = rw c.symbol_is r.symbol_below; joins = rw (c.order_is, c.B-is, c.R-is) f }

  -- the order-1 state that is entry e
  state_below : {p S e : ℕ} → EntryIs A p S e → A.J + e < states A
  state_below {e = e} h = let l : e < length A.entries = h.below in omega arith

  says_bounded : (ρ : Rule) (op : Operation) (d : Derivation) → RuleBounded Q K ρ → Says A ρ op d → ResultBounded Q K (states A) d.result
  says_bounded ρ (rewrite b) d r h = concluded_bounded r h.concluded (entry_bounded h.premise.entry_is) (move_at_bounded h.move)
  says_bounded ρ (push1 b) d r h =
      let f = move_at_bounded h.move in
      let start = none_bounded _ (fits_below Q (states A) 1 (move_at A h.move).order h.order_fits_holds f.annotation_below) in
      concluded_bounded r h.concluded (entry_bounded h.premise.entry_is) (joined_bounded d.moves start h.joined)
  says_bounded ρ (push2 b) d r h =
      let f = move_at_bounded h.move in
      concluded_bounded r h.concluded
      (all_join (entry_bounded h.premise.entry_is) (fits_below Q (states A) 2 (move_at A h.move).order h.order_fits_holds f.annotation_below))
      (joined_bounded d.moves (none_bounded 0 (all_empty _)) h.joined)
  says_bounded ρ copy d r h =
      concluded_bounded r h.concluded
      (edge_sets_all A (λ q. q < Q) d.edges (λ e i. edge_bounded e (paired_state h.chosen i).2.below))
      (joined_bounded d.moves (move_at_bounded h.move) h.joined)
  says_bounded ρ pop1 d r h =
      concluded_bounded r h.concluded (entry_bounded h.premise) (none_bounded _ (all_single (λ r. r < states A) _ (state_below h.premise)))
  says_bounded ρ pop2 d r h = concluded_bounded r h (all_single (λ q. q < Q) _ r.next_below) (none_bounded 0 (all_empty _))
  says_bounded ρ collapse1 d r h =
      concluded_bounded r h.concluded (entry_bounded h.premise)
      (record { annotation_below = all_single (λ r. r < states A) _ (state_below h.premise); rest_below = all_empty _ })
  says_bounded ρ collapse2 d r h =
      concluded_bounded r h (all_empty _) (record { annotation_below = all_single (λ q. q < Q) _ r.next_below; rest_below = all_empty _ })

  derivation_bounded : (rules : List Rule) → ((ρ : Rule) → Memᴰ ρ rules → RuleBounded Q K ρ) → {d : Derivation} → Memᴰ d (derivations A rules)
      → ResultBounded Q K (states A) d.result
  derivation_bounded rules f {d} j =
      let h : Derives A rules d = derivations_out A rules j in
      says_bounded h.rule h.rule.operation d (f h.rule (get_elem?_in rules d.rule h.numbered)) h.says

  -- ---- the table

  -- a result whose order-1 states were there before
  add_bounded : {n : ℕ} (x : Result) → n ≤ states A → ResultBounded Q K n x → Bounded Q K (add A x)
  unfolding add new_move
  add_bounded {n} x l f =
      let g : states A ≤ states (add A x) = states_grow (add_extends A x) in
      let new : MoveBounded Q K n (new_move A x) =
      record { symbol_below = f.symbol_below; annotation_below = f.joins.annotation_below; rest_below = f.joins.rest_below } in
      record {
        inner_below = F.inner_below;
        entry_below = λ e j. ⊎_elim (λ i. F.entry_below e i) (λ z. rw z f.set_below) (with_entry_out x.control x.S A.entries j);
        move_below = λ m j. ⊎_elim
            (λ i. move_bounded_more g (F.move_below m i))
            (λ i. move_bounded_more (le_trans l g) (subst (MoveBounded Q K n) (sym (Memᴰ.eq_of_singleton i)) new))
            (Memᴰ.append_cases A.moves j);
      }

add_all_bounded : {Q K n : ℕ} {A : Automaton} → Bounded Q K A → n ≤ states A → (xs : List Result) → ((x : Result) → Memᴰ x xs → ResultBounded Q K n x)
    → Bounded Q K (add_all A xs)
unfolding add_all
add_all_bounded F l [] f = F
add_all_bounded {A = A} F l (x ∷ xs) f =
    add_all_bounded {A = add A x} (add_bounded F x l (f x (Memᴰ.head refl))) (le_trans l (states_grow (add_extends A x))) xs (λ y j. f y (Memᴰ.tail j))

module _ {Q K : ℕ} (rules : List Rule) (rule-bounded : (ρ : Rule) → Memᴰ ρ rules → RuleBounded Q K ρ) where
  round_bounded : {A : Automaton} → Bounded Q K A → Bounded Q K (round rules A)
  unfolding round extend
  round_bounded {A} F = add_all_bounded F (le_refl (states A)) (added A (results rules A)) (λ x j.
      let (d, i, e) = results_out rules A (added_out A (results rules A) j).0 in
      subst (ResultBounded Q K (states A)) e (derivation_bounded F rules rule-bounded i))

  pub after_bounded : {own : Automaton} → Bounded Q K own → (n : ℕ) → Bounded Q K (table_after rules own n)
  unfolding table_after
  after_bounded F zero = F
  after_bounded F (suc n) = round_bounded (after_bounded F n)
