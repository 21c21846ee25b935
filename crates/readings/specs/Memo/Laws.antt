-- What holds of the memo table: a state that a row holds need not be worked through again, and one that was worked through may be put
-- into a row.
-- Assumes nothing.
use Rattle.std.specs.Prelude.{ℕ, ◌+◌, ◌*◌, ◌≤◌, ◌<◌, Bool, true, ◌≡◌, ◌⊎◌, List, [], length, replicate}
use Rattle.std.proofs.Math.Path.{ap}
use Rattle.std.proofs.Common.{sym, ◌∙◌, subst, inl, inr, ⊎_elim}
use Rattle.std.proofs.Math.Option.{Option}
use native.Mathlib.Omega.{arith}
use Rattle.std.proofs.lemmas.List.{length-replicate, get_or-replicate}
use borrow.Author.Tests.{eq-eqb, ne_eqb}
use Rattle.words.specs.Sets.{members}
use Rattle.words.specs.Order.{same}
use Rattle.words.specs.Order.Laws.{number_cases}
use Rattle.automata.specs.Automaton.{Automaton}
use Rattle.automata.specs.Derivation.{Result}
use Rattle.automata.specs.Saturation.{held}
use Rattle.tables.specs.Rows.{row_at, put_row}
use Rattle.tables.specs.Rows.Laws.{length_put_row, put_same, put_other}
use Rattle.tables.specs.Pending.{pending_in}
use Rattle.memo_table.specs.declared.State.{State}
use Rattle.memo_table.specs.States.{state_words, read_kind, edges_kind, read_state, edges_state}
use Rattle.memo_table.specs.States.Laws.{same_states}
use Rattle.memo_table.specs.Layout.{state_row}
use Rattle.joins.specs.Joining.{the_joins}
use Rattle.offers.specs.Offers.{offer_all, Collects}
use Rattle.offers.specs.Offers.Again.{offer_all_both, offer_all_twice}
use Rattle.readings.specs.Readings.{read_results, edge_results}
use Rattle.readings.specs.Memo.{state_results, MemoBefore, MemoUpTo, MemoHolds}

-- ---- what states give

module _ (A : Automaton) (x : State) (n p a S left order B R : ℕ) (l : length A.moves ≡ n) where
  pub read_gives : x ≡ read_state n p a S left order B R → state_results A x ≡ read_results A p a S (members left) (the_joins order B R)
  unfolding state_results
  read_gives e =
      let k : x.kind ≡ read_kind (length A.moves) = ap (λ y. y.kind) e ∙ ap read_kind (sym l) in
      rw (state_results, eq-eqb x.kind (read_kind (length A.moves)) k)
      (ap (λ y. read_results A y.control y.symbol y.s (members y.left) (the_joins y.order y.b y.r)) e)

  pub edges_gives : (N : ℕ) → x ≡ edges_state n p a S left N order B R → state_results A x ≡ edge_results A p a (the_joins order B R) (members left) N S
  unfolding state_results
  edges_gives N e =
      let k : x.kind ≡ edges_kind (length A.moves) = ap (λ y. y.kind) e ∙ ap edges_kind (sym l) in
      let o : x.kind ≡ read_kind (length A.moves) → ⊥ = omega (arith, k) in
      rw (state_results, ne_eqb x.kind (read_kind (length A.moves)) o, eq-eqb x.kind (edges_kind (length A.moves)) k)
      (ap (λ y. edge_results A y.control y.symbol (the_joins y.order y.b y.r) (members y.left) y.named y.s) e)

  pub read_not_later : x ≡ read_state n p a S left order B R → x.kind ≤ edges_kind (length A.moves)
  read_not_later e = let k : x.kind ≡ read_kind n = ap (λ y. y.kind) e in omega (arith, l)

  pub edges_not_later : (N : ℕ) → x ≡ edges_state n p a S left N order B R → x.kind ≤ edges_kind (length A.moves)
  edges_not_later N e = let k : x.kind ≡ edges_kind n = ap (λ y. y.kind) e in omega (arith, l)

-- a row of an earlier round, or an empty one
results_earlier : (A : Automaton) (x : State) → x.kind < read_kind (length A.moves) → state_results A x ≡ []
unfolding state_results
results_earlier A x h =
    let one : x.kind ≡ read_kind (length A.moves) → ⊥ = omega arith in
    let two : x.kind ≡ edges_kind (length A.moves) → ⊥ = omega arith in
    rw (state_results, ne_eqb x.kind (read_kind (length A.moves)) one, ne_eqb x.kind (edges_kind (length A.moves)) two)

-- ---- tables of states

-- a table of zeros
pub memo_empty : (n k : ℕ) → 9 ≤ k → MemoBefore n (replicate k 0)
unfolding row_at
memo_empty n k h =
    let l : length {A = ℕ} (replicate k 0) ≡ k = length-replicate k 0 in
    record {
      some_row = omega arith;
      earlier = λ i b. let z : (row_at state_row (replicate k 0) i).kind ≡ 0 = get_or-replicate k (i * 9 + 0) 0 0 (omega arith) in omega arith;
    }

-- in a round with more moves all rows are of earlier rounds
pub memo_next : {n m : ℕ} {memo : List ℕ} → MemoUpTo n memo → n < m → MemoBefore m memo
memo_next h l = record { some_row = h.some_row; earlier = λ i b. let k = h.no_later i b in omega arith }

module _ {A : Automaton} {room n : ℕ} {t : List ℕ} where
  -- rows of earlier rounds hold no state of this one
  pub memo_none : {memo : List ℕ} → MemoBefore (length A.moves) memo → MemoHolds A room n t memo
  unfolding offer_all
  memo_none {memo} h =
      record {
        up_to = record { some_row = h.some_row; no_later = λ i b. let k = h.earlier i b in omega arith };
        absorbed = λ i b. ap (offer_all (held A) room (pending_in room n t)) (results_earlier A (row_at state_row memo i) (h.earlier i b));
      }

  pub memo_same : {r : ℕ} {t' memo memo' : List ℕ} → MemoHolds A room n t memo → memo' ≡ memo → t' ≡ t → r ≡ n → MemoHolds A room r t' memo'
  memo_same h es et er = rw (es, et, er) h

  -- what is offered later changes nothing

  pub memo_later : {r : ℕ} {t' memo : List ℕ} {xs : List Result} → MemoHolds A room n t memo → Collects A room n t xs r t' → MemoHolds A room r t' memo
  memo_later {memo = memo} {xs = xs} h c =
      record {
        up_to = h.up_to;
        absorbed = λ i b.
            ap (λ (o : Option (List Result)). offer_all (held A) room o (state_results A (row_at state_row memo i))) c.collected
            ∙ offer_all_both room (held A) xs (state_results A (row_at state_row memo i)) (pending_in room n t)
            ∙ ap (λ (o : Option (List Result)). offer_all (held A) room o xs) (h.absorbed i b)
            ∙ sym c.collected;
      }

  -- a state that a row holds was worked through

  pub memo_found : (memo : List ℕ) (x : State) (i : ℕ) (found : Bool) (xs : List Result) → state_results A x ≡ xs → MemoHolds A room n t memo → n ≤ room + 1
      → i * 9 + 9 ≤ length memo → found ≡ same (state_words (row_at state_row memo i)) (state_words x) → found ≡ true → Collects A room n t xs n t
  memo_found memo x i found xs g h m b e f =
      record {
        collected =
            sym (h.absorbed i b)
            ∙ ap (offer_all (held A) room (pending_in room n t)) (ap (state_results A) (same_states (row_at state_row memo i) x (sym e ∙ f)) ∙ g);
        number = m;
      }

  -- a state that was worked through may be put into a row

  pub memo_more : {r : ℕ} {t' : List ℕ} (memo memo' : List ℕ) (x : State) (i : ℕ) (xs : List Result) → x.kind ≤ edges_kind (length A.moves) → state_results A x ≡ xs
      → Collects A room n t xs r t' → MemoHolds A room r t' memo → i * 9 + 9 ≤ length memo → memo' ≡ put_row state_row memo i x → MemoHolds A room r t' memo'
  memo_more {r} {t'} memo memo' x i xs v g c h b q =
      subst (λ (l : List ℕ). MemoHolds A room r t' l) (sym q)
      (record {
        up_to = record {
          some_row = let l : length (put_row state_row memo i x) ≡ length memo = length_put_row state_row memo i x in omega (arith, h.up_to.some_row);
          no_later = λ j d. let l : length (put_row state_row memo i x) ≡ length memo = length_put_row state_row memo i x in
              ⊎_elim (λ a. kind_other j (inl a) (omega arith)) (⊎_elim (λ e. kind_own j e) (λ a. kind_other j (inr a) (omega arith))) (number_cases j i);
        };
        absorbed = λ j d. let l : length (put_row state_row memo i x) ≡ length memo = length_put_row state_row memo i x in
            ⊎_elim (λ a. other j (inl a) (omega arith)) (⊎_elim (λ e. own j e) (λ a. other j (inr a) (omega arith))) (number_cases j i);
      })
    where
      NotLater : State → Type 0
      NotLater y = y.kind ≤ edges_kind (length A.moves)

      kind_own : (j : ℕ) → j ≡ i → NotLater (row_at state_row (put_row state_row memo i x) j)
      kind_own j e = subst NotLater (sym (ap (row_at state_row (put_row state_row memo i x)) e ∙ put_same state_row memo i x b)) v

      kind_other : (j : ℕ) → (j < i) ⊎ (i < j) → j * 9 + 9 ≤ length memo → NotLater (row_at state_row (put_row state_row memo i x) j)
      kind_other j a d = subst NotLater (sym (put_other state_row memo i j x a)) (h.up_to.no_later j d)

      Absorbs : State → Type 0
      Absorbs y = offer_all (held A) room (pending_in room r t') (state_results A y) ≡ pending_in room r t'

      worked : Absorbs x
      worked =
          ap (offer_all (held A) room (pending_in room r t')) g
          ∙ ap (λ (o : Option (List Result)). offer_all (held A) room o xs) c.collected
          ∙ offer_all_twice room (held A) xs (pending_in room n t)
          ∙ sym c.collected

      own : (j : ℕ) → j ≡ i → Absorbs (row_at state_row (put_row state_row memo i x) j)
      own j e = subst Absorbs (sym (ap (row_at state_row (put_row state_row memo i x)) e ∙ put_same state_row memo i x b)) worked

      other : (j : ℕ) → (j < i) ⊎ (i < j) → j * 9 + 9 ≤ length memo → Absorbs (row_at state_row (put_row state_row memo i x) j)
      other j a d = subst Absorbs (sym (put_other state_row memo i j x a)) (h.absorbed j d)
