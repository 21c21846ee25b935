-- The laws of a set without the state of a move, and of the loops that take one move after another.
-- Assumes nothing.
use Rattle.std.specs.Prelude.{ℕ, ◌+◌, ◌%◌, ◌≤◌, true, false, ◌≡◌, refl, List, eqb, ltb}
use Rattle.std.proofs.lemmas.Bool.{false≢true}
use Rattle.std.proofs.Common.{ap, sym, ◌∙◌, subst, mod-eq_of_lt, arith, eq-eqb, ltb-true, ltb-false}
use Rattle.words.specs.Laws.Tests.{by_test}
use Rattle.words.specs.Sets.{member, single, join}
use Rattle.words.proofs.Sets.Laws.{Has, has_single, has_join_left, has_join_right}
use Rattle.sets.specs.Without.{without}
use Rattle.sets.specs.Without.Laws.{without_has}
use Rattle.automata.specs.Automaton.{Move}
use Rattle.tables.specs.Rows.{row_at}
use Rattle.tables.specs.Layouts.{move_row}
use Rattle.round_news.specs.News.{HasSymbols, NoneHas, unsettled}

-- ---- the set without the state of a move

module _ (s : ℕ) (m : Move) (a : ℕ) where
  -- the move is on another symbol
  pub unsettled_other : eqb m.symbol a ≡ false → unsettled s m a ≡ s
  unfolding unsettled
  unsettled_other e = rw (unsettled, e)

  -- its state is no member
  pub unsettled_out : eqb m.symbol a ≡ true → member s (m.state % 64) ≡ false → unsettled s m a ≡ s
  unfolding unsettled
  unsettled_out e h = rw (unsettled, e, h)

  pub unsettled_in : eqb m.symbol a ≡ true → member s (m.state % 64) ≡ true → unsettled s m a ≡ without s (m.state % 64)
  unfolding unsettled
  unsettled_in e h = rw (unsettled, e, h)

  -- its members are members of s
  unsettled_had : (q : ℕ) → Has (unsettled s m a) q → Has s q
  unsettled_had q k =
      by_test (eqb m.symbol a)
      (λ e. by_test (member s (m.state % 64))
      (λ h. (without_has s (m.state % 64) h (subst (λ (x : ℕ). Has x q) (unsettled_in e h) k)).0)
      (λ h. subst (λ (x : ℕ). Has x q) (unsettled_out e h) k))
      (λ e. subst (λ (x : ℕ). Has x q) (unsettled_other e) k)

  -- the state of a move on the symbol is none
  unsettled_gone : m.symbol ≡ a → Has (unsettled s m a) (m.state % 64) → ⊥
  unsettled_gone z k =
      let e : eqb m.symbol a ≡ true = eq-eqb _ _ z in
      by_test (member s (m.state % 64))
      (λ h. (without_has s (m.state % 64) h (subst (λ (x : ℕ). Has x (m.state % 64)) (unsettled_in e h) k)).1 refl)
      (λ h. false≢true (sym h ∙ (subst (λ (x : ℕ). Has x (m.state % 64)) (unsettled_out e h) k).has))

-- ---- one move after another

module _ (moves : List ℕ) (from : ℕ) where
  pub symbols_none : (s : ℕ) → HasSymbols moves from from s
  symbols_none s = record { has_symbol = λ i l h. absurd (omega arith) }

  pub symbols_more : (n : ℕ) {s : ℕ} (m : Move) (bit r : ℕ) → HasSymbols moves from n s → m ≡ row_at move_row moves n → bit ≡ single (m.symbol % 64)
      → r ≡ join s bit → HasSymbols moves from (n + 1) r
  symbols_more n {s} m bit r w e b j =
      record {
        has_symbol =
            λ i l h. let a : ℕ = (row_at move_row moves i).symbol % 64 in
            subst (λ (x : ℕ). Has x a) (sym j)
            (by_test (ltb i n)
            (λ t. has_join_left bit (w.has_symbol i l (ltb-true i n t)))
            (λ t. let k : n ≤ i = ltb-false i n t in
            let d : n ≡ i = omega arith in
            let x : m.symbol % 64 ≡ a = ap (λ (v : Move). v.symbol % 64) (e ∙ ap (row_at move_row moves) d) in
            has_join_right s (subst (λ (y : ℕ). Has y a) (sym (b ∙ ap single x)) (has_single a))));
      }

  pub symbols_fewer : {n to s : ℕ} → HasSymbols moves from n s → to ≤ n → HasSymbols moves from to s
  symbols_fewer w k = record { has_symbol = λ i l h. w.has_symbol i l (omega arith) }

  module _ (a : ℕ) where
    pub none_start : (s : ℕ) → NoneHas moves from from a s
    none_start s = record { none_has = λ i l h. absurd (omega arith) }

    pub none_more : (n : ℕ) {s : ℕ} (m : Move) (r : ℕ) → NoneHas moves from n a s → m ≡ row_at move_row moves n → r ≡ unsettled s m a
        → NoneHas moves from (n + 1) a r
    none_more n {s} m r w e u =
        record {
          none_has =
              λ i l h z b k. let q : ℕ = (row_at move_row moves i).state in
              let k' : Has (unsettled s m a) q = subst (λ (x : ℕ). Has x q) u k in
              by_test (ltb i n)
              (λ t. w.none_has i l (ltb-true i n t) z b (unsettled_had s m a q k'))
              (λ t. let v : n ≤ i = ltb-false i n t in
              let d : n ≡ i = omega arith in
              let x : m ≡ row_at move_row moves i = e ∙ ap (row_at move_row moves) d in
              let p : m.state % 64 ≡ q = ap (λ (y : Move). y.state % 64) x ∙ mod-eq_of_lt b in
              unsettled_gone s m a (ap (λ (y : Move). y.symbol) x ∙ z) (subst (Has (unsettled s m a)) (sym p) k'));
        }

    pub none_fewer : {n to s : ℕ} → NoneHas moves from n a s → to ≤ n → NoneHas moves from to a s
    none_fewer w k = record { none_has = λ i l h. w.none_has i l (omega arith) }
