-- The loop over the moves of a state: none, one more, all.
-- Assumes nothing.
use Rattle.std.specs.Prelude.{ℕ, suc, ◌+◌, ◌*◌, ◌≤◌, ◌<◌, true, ◌&&◌, ◌≡◌, ◌⊎◌, eqb}
use Rattle.std.proofs.Math.Path.{refl, ap, sym, subst}
use Rattle.std.proofs.Common.{ap₂, ◌∙◌, eqb-true, eq-eqb}
use Rattle.std.proofs.Math.Logic.{inl, inr, ⊎_elim}
use Rattle.std.proofs.Math.Option.{Option, none, some, none-ne-some}
use mathlib.Core.List.{List, [], ◌∷◌, Memᴰ}
use native.Mathlib.Omega.{arith}
use Rattle.std.proofs.Math.ListN.{length}
use Rattle.words.specs.Sets.{member, members}
use Rattle.words.proofs.Sets.Laws.{members_empty}
use Rattle.words.specs.Laws.Tests.{by_test, and_left, and_right}
use Rattle.words.specs.Order.Laws.{number_cases}
use Rattle.sets.specs.Without.{without}
use Rattle.sets.specs.Without.Laws.{members_fewer}
use Rattle.automata.specs.Automaton.{Automaton, Move, move_at, moves_of}
use Rattle.automata.specs.Automaton.Laws.{moves_of_in, moves_of_out}
use Rattle.automata.specs.Derivation.{Result, Joins, join_move}
use Rattle.tables.specs.declared.Table.{Table}
use Rattle.tables.specs.declared.Result.{Result as ResultWords}
use Rattle.tables.specs.Rows.{row_at, rows_in}
use Rattle.tables.specs.Rows.Laws.{length_rows_in}
use Rattle.tables.specs.Records.{as_result}
use Rattle.tables.specs.Layouts.{move_row}
use Rattle.tables.specs.Held.{table_of}
use Rattle.tables.specs.Held.Laws.{row_move}
use Rattle.chains.specs.Chains.{last_below}
use Rattle.chains.specs.Chains.Laws.{last_below_lem, last_key, last_none}
use Rattle.move_index.specs.Keys.{state_key, state_key_at}
use Rattle.joins.specs.Joining.{the_joins, candidate_of}
use Rattle.offers.specs.Offers.{AllHeld, Covered, Collects}
use Rattle.offers.specs.Offers.Laws.{collects_same}
use Rattle.offers.specs.Offers.Alike.{gathered_none, gathered_more, gathered_same, gathered_all, held_none, covered_in, covered_same, collects_alike}
use Rattle.readings.specs.Readings.{the_result, from_joins, read_results}
use Rattle.readings.specs.Readings.Order.{from_joins_lem, read_out, read_in, read_apart, read_together}
use Rattle.readings.specs.Turns.{OnChain, move_results, FromOn, ReadDownTo}

-- ---- a row of the moves

table_move : (z : Table) (entries moves : List ℕ) (i : ℕ) (m : Move) → i < z.moves → m ≡ row_at move_row moves i → m ≡ move_at (table_of z entries moves) i
unfolding move_at
table_move z entries moves i m b e = row_move z [] entries moves i m b e

-- ---- a move that is a candidate

-- The move is one of state q on symbol a and joins to k.
record Joining (q a : ℕ) (j : Joins) (m : Move) (k : Joins) : Type 0 where
  state_is : m.state ≡ q
  symbol_is : m.symbol ≡ a
  joins_are : join_move j m ≡ some k

candidate_out : (q a : ℕ) (j : Joins) (m : Move) {k : Joins} → candidate_of q a j m ≡ some k → Joining q a j m k
unfolding candidate_of
candidate_out q a j m {k} e = by_test (eqb m.state q && eqb m.symbol a)
    (λ t. record {
      state_is = eqb-true _ _ (and_left (eqb m.state q) _ t);
      symbol_is = eqb-true _ _ (and_right (eqb m.state q) _ t);
      joins_are = rw (candidate_of, t) at e;
    })
    (λ t. absurd (none-ne-some k (rw (candidate_of, t) at e)))

candidate_in : (q a : ℕ) (j : Joins) (m : Move) {k : Joins} → m.state ≡ q → m.symbol ≡ a → join_move j m ≡ some k → candidate_of q a j m ≡ some k
unfolding candidate_of
candidate_in q a j m s y e = rw (candidate_of, eq-eqb m.state q s, eq-eqb m.symbol a y) e

module _ (z : Table) (entries moves : List ℕ) where
  -- a candidate of the code is a move of state q on symbol a, with these joins
  pub candidate_there : (q a : ℕ) (j : Joins) (i : ℕ) (m : Move) {k : Joins} → i < z.moves → m ≡ row_at move_row moves i → candidate_of q a j m ≡ some k
      → Memᴰ i (moves_of (table_of z entries moves) q a) × (join_move j (move_at (table_of z entries moves) i) ≡ some k)
  candidate_there q a j i m b e f =
      let len : length (rows_in move_row z.moves moves) ≡ z.moves = length_rows_in move_row z.moves moves in
      let r : m ≡ move_at (table_of z entries moves) i = table_move z entries moves i m b e in
      let c = candidate_out q a j m f in (
        moves_of_in (table_of z entries moves)
            (record { below = omega arith; state_is = ap (λ y. y.state) (sym r) ∙ c.state_is; symbol_is = ap (λ y. y.symbol) (sym r) ∙ c.symbol_is }),
        ap (join_move j) (sym r) ∙ c.joins_are,
      )

-- ---- the walk

module _ (z : Table) (entries moves : List ℕ) (p a S : ℕ) (j : Joins) (q : ℕ) (rs : List ℕ) where
  -- a move with another key gives nothing
  other_key : (i : ℕ) → i < z.moves → (state_key_at moves i ≡ state_key q a → ⊥) → AllHeld (table_of z entries moves) (move_results (table_of z entries moves) p a S j q rs i)
  unfolding move_results
  other_key i b d =
      record {
        all_held = λ x m.
            let w = from_joins_lem (candidate_of q a j (move_at (table_of z entries moves) i)) (λ k. read_results (table_of z entries moves) p a S rs k) m in
            let c = candidate_out q a j (move_at (table_of z entries moves) i) w.1 in
            absurd (d (ap₂ state_key (ap (λ y. y.state) (table_move z entries moves i (row_at move_row moves i) b refl) ∙ c.state_is) (ap (λ y. y.symbol) (table_move z entries moves i (row_at move_row moves i) b refl) ∙ c.symbol_is)));
      }

  -- what a candidate gives are results of readings from q and the others
  candidate_reads : (i : ℕ) → i < z.moves
      → Covered (table_of z entries moves) (move_results (table_of z entries moves) p a S j q rs i) (read_results (table_of z entries moves) p a S (q ∷ rs) j)
  unfolding move_results
  candidate_reads i b = covered_in (λ x m.
      let len : length (rows_in move_row z.moves moves) ≡ z.moves = length_rows_in move_row z.moves moves in
      let w = from_joins_lem (candidate_of q a j (move_at (table_of z entries moves) i)) (λ k. read_results (table_of z entries moves) p a S rs k) m in
      let c = candidate_out q a j (move_at (table_of z entries moves) i) w.1 in
      read_in (table_of z entries moves) p a S q rs j
      (record {
        number = i;
        there = moves_of_in (table_of z entries moves) (record { below = omega arith; state_is = c.state_is; symbol_is = c.symbol_is });
        joins = w.0;
        joins_are = c.joins_are;
        rest = w.2;
      }))

  module _ (room n : ℕ) (t : List ℕ) where
    pub down_none : (c : ℕ) → n ≤ room + 1 → c ≡ last_below (state_key_at moves) (state_key q a) z.moves
        → ReadDownTo (table_of z entries moves) p a S j q rs room n t c n t
    down_none c h e =
        let len : length (rows_in move_row z.moves moves) ≡ z.moves = length_rows_in move_row z.moves moves in
        gathered_none h (λ xs d.
        let b : d.0 < z.moves = omega (arith, d.2) in
        subst (AllHeld (table_of z entries moves)) (sym d.3)
        (other_key d.0 b (λ k. last_none (state_key_at moves) (state_key q a) z.moves d.0 (omega (arith, d.1)) b k)))

    module _ (c i k c' : ℕ) (t' : List ℕ) (m : Move) (o : Option Joins)
        (h : ReadDownTo (table_of z entries moves) p a S j q rs room n t c k t')
        (ci : c ≡ suc i) (b : i < z.moves) (key : state_key_at moves i ≡ state_key q a) (e : m ≡ row_at move_row moves i) (f : o ≡ candidate_of q a j m)
        (g : c' ≡ last_below (state_key_at moves) (state_key_at moves i) i) where
      -- what the move gives, by its joins
      turn_list : move_results (table_of z entries moves) p a S j q rs i ≡ from_joins o (λ l. read_results (table_of z entries moves) p a S rs l)
      unfolding move_results
      turn_list = ap (λ (y : Option Joins). from_joins y (λ l. read_results (table_of z entries moves) p a S rs l)) (ap (candidate_of q a j) (sym (table_move z entries moves i m b e)) ∙ sym f)

      -- one move further: it is done already, it is this one, or it has another key
      further : (xs : List Result) → FromOn (table_of z entries moves) p a S j q rs c' xs
          → (FromOn (table_of z entries moves) p a S j q rs c xs ⊎ AllHeld (table_of z entries moves) xs) ⊎ (xs ≡ move_results (table_of z entries moves) p a S j q rs i)
      further xs d =
          let len : length (rows_in move_row z.moves moves) ≡ z.moves = length_rows_in move_row z.moves moves in
          ⊎_elim
          (λ below.
          let u : d.0 < z.moves = omega (arith, d.2) in
          inl (inr (subst (AllHeld (table_of z entries moves)) (sym d.3)
          (other_key d.0 u (λ y. last_none (state_key_at moves) (state_key_at moves i) i d.0 (omega (arith, d.1)) below (y ∙ sym key))))))
          (⊎_elim
          (λ same. inr (d.3 ∙ ap (move_results (table_of z entries moves) p a S j q rs) same))
          (λ above. inl (inl (d.0, omega arith, d.2, d.3))))
          (number_cases d.0 i)

      pub down_yes : (joins : Joins) (k' k'' : ℕ) (t'' t''' : List ℕ) → o ≡ some joins
          → Collects (table_of z entries moves) room k t' (read_results (table_of z entries moves) p a S rs joins) k' t''
          → length t'' ≡ length t' → t''' ≡ t'' → k'' ≡ k' → ReadDownTo (table_of z entries moves) p a S j q rs room n t c' k'' t'''
      unfolding from_joins
      down_yes joins k' k'' t'' t''' y d l et ek =
          let same : read_results (table_of z entries moves) p a S rs joins ≡ move_results (table_of z entries moves) p a S j q rs i =
          ap (λ (v : Option Joins). from_joins v (λ u. read_results (table_of z entries moves) p a S rs u)) (sym y) ∙ sym turn_list in
          rw (et, ek)
          (gathered_same
          (gathered_more {done' = λ xs. FromOn (table_of z entries moves) p a S j q rs c xs ⊎ (xs ≡ move_results (table_of z entries moves) p a S j q rs i)}
          (move_results (table_of z entries moves) p a S j q rs i) h (collects_same same d) l (candidate_reads i b)
          (λ xs v. ⊎_elim (λ u. inl u) (λ u. inr (subst (λ ys. Covered (table_of z entries moves) ys (move_results (table_of z entries moves) p a S j q rs i)) (sym u) covered_same)) v))
          (λ xs v. ⊎_elim (λ u. ⊎_elim (λ r. inl (inl r)) (λ r. inr r) u) (λ u. inl (inr u)) (further xs v)) refl refl)

      pub down_no : (k' : ℕ) (t'' : List ℕ) → o ≡ none → t'' ≡ t' → k' ≡ k → ReadDownTo (table_of z entries moves) p a S j q rs room n t c' k' t''
      unfolding from_joins
      down_no k' t'' y et ek =
          gathered_same h
          (λ xs v. ⊎_elim (λ u. u)
          (λ u. inr (subst (AllHeld (table_of z entries moves))
          (sym (u ∙ turn_list ∙ ap (λ (r : Option Joins). from_joins r (λ l. read_results (table_of z entries moves) p a S rs l)) y)) held_none))
          (further xs v)) et ek

    pub down_all : (c k : ℕ) (t' : List ℕ) → ReadDownTo (table_of z entries moves) p a S j q rs room n t c k t' → c ≤ 0
        → Collects (table_of z entries moves) room n t (read_results (table_of z entries moves) p a S (q ∷ rs) j) k t'
    unfolding move_results from_joins
    down_all c k t' h b = gathered_all h (λ x m.
        let f = read_out (table_of z entries moves) p a S q rs j m in
        let v = moves_of_out (table_of z entries moves) q a f.there in
        inr (
          move_results (table_of z entries moves) p a S j q rs f.number,
          (f.number, omega arith, v.below, refl),
          subst (λ (o : Option Joins). Memᴰ x (from_joins o (λ l. read_results (table_of z entries moves) p a S rs l)))
              (sym (candidate_in q a j (move_at (table_of z entries moves) f.number) v.state_is v.symbol_is f.joins_are)) f.rest,
        ))

-- ---- where the chain goes

pub chain_starts : (moves : List ℕ) (key n c : ℕ) → c ≡ last_below (state_key_at moves) key n → (c ≤ n) × OnChain moves key c
chain_starts moves key n c e =
    (let b = last_below_lem (state_key_at moves) key n in omega (arith, b), λ i f. (last_key (state_key_at moves) key n i (sym e ∙ f)).1)

pub chain_goes : (moves : List ℕ) (key n i c' : ℕ) → i < n → state_key_at moves i ≡ key → c' ≡ last_below (state_key_at moves) (state_key_at moves i) i → (c' ≤ n) × OnChain moves key c' × (c' < suc i)
chain_goes moves key n i c' b k e =
    let l = last_below_lem (state_key_at moves) (state_key_at moves i) i in
    (omega (arith, l), λ m f. (last_key (state_key_at moves) (state_key_at moves i) i m (sym e ∙ f)).1 ∙ k, omega (arith, l))

-- ---- the state that is read first, and the end

-- one member of the states left, and the others
pub read_left : (A : Automaton) (p a S : ℕ) (j : Joins) (left q others : ℕ) {room n k : ℕ} {t t' : List ℕ} → member left q ≡ true → others ≡ without left q
    → Collects A room n t (read_results A p a S (q ∷ members others) j) k t' → Collects A room n t (read_results A p a S (members left) j) k t'
read_left A p a S j left q others h e c =
    collects_alike (covered_in (λ x m. read_together A p a S left q h j m)) (covered_in (λ x m. read_apart A p a S left q h j m))
    (collects_same (ap (λ (l : ℕ). read_results A p a S (q ∷ members l) j) e) c)

-- fewer states are left
pub fewer_others : (left q others m : ℕ) → member left q ≡ true → others ≡ without left q → length (members left) * 3 + 1 ≡ m → length (members others) * 3 + 3 < m
fewer_others left q others m h e f =
    let g : length (members left) ≡ suc (length (members others)) = members_fewer left q h ∙ ap (λ (l : ℕ). suc (length (members l))) (sym e) in
    omega arith

-- no state is left
pub read_end : (z : Table) (entries moves : List ℕ) (p a S : ℕ) (order B R : ℕ) (x : ResultWords) (left room n k : ℕ) (t t' : List ℕ) → left ≡ 0 → x ≡ the_result p S a order B R
    → Collects (table_of z entries moves) room n t (as_result x ∷ []) k t'
    → Collects (table_of z entries moves) room n t (read_results (table_of z entries moves) p a S (members left) (the_joins order B R)) k t'
unfolding read_results
read_end z entries moves p a S order B R x left room n k t t' e f c =
    collects_same
    (ap (λ (y : ResultWords). as_result y ∷ []) f ∙ ap (λ (l : List ℕ). read_results (table_of z entries moves) p a S l (the_joins order B R)) (sym (ap members e ∙ members_empty)))
    c
