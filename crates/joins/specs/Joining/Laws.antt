-- The joins with a move, by whether it joins.
-- Assumes nothing.
use Rattle.std.specs.Prelude.{ℕ, max, true, false, ◌&&◌, ◌≡◌, eqb}
use Rattle.std.proofs.Math.Option.{none, some}
use Rattle.words.specs.Sets.{join}
use Rattle.automata.specs.Automaton.{Move}
use Rattle.automata.specs.Derivation.{Joins, clash, join_move}
use Rattle.joins.specs.Joining.{the_joins, candidate_of}

module _ (j : Joins) (m : Move) where
  pub joins_clash : clash j.order m.order ≡ true → join_move j m ≡ none
  unfolding join_move
  joins_clash e = rw (join_move, e)

  pub joins_both : {o b r : ℕ} → clash j.order m.order ≡ false → o ≡ max j.order m.order → b ≡ join j.B m.B → r ≡ join j.R m.R
      → some (the_joins o b r) ≡ join_move j m
  unfolding join_move
  joins_both e p s t = rw (join_move, e) (λ i. some (the_joins (p i) (s i) (t i)))

  module _ (q a : ℕ) where
    -- a move of state q on symbol a
    pub candidate_yes : eqb m.state q && eqb m.symbol a ≡ true → candidate_of q a j m ≡ join_move j m
    unfolding candidate_of
    candidate_yes e = rw (candidate_of, e)

    pub candidate_no : eqb m.state q && eqb m.symbol a ≡ false → candidate_of q a j m ≡ none
    unfolding candidate_of
    candidate_no e = rw (candidate_of, e)
