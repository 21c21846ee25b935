-- The loop over the moves of a state, newest first along the chain of its key.
-- Assumes nothing.
pub mod Laws
use Rattle.std.specs.Prelude.{ℕ, suc, ◌≤◌, ◌<◌, ◌≡◌, List, ◌∷◌, length}
use Rattle.automata.specs.Automaton.{Automaton, move_at}
use Rattle.automata.specs.Derivation.{Result, Joins}
use Rattle.move_index.specs.Keys.{state_key_at}
use Rattle.joins.specs.Joining.{candidate_of}
use Rattle.offers.specs.Offers.Alike.{Gathered}
use Rattle.readings.specs.Readings.{from_joins, read_results}

-- The move before number c, where there is one, has this key.
abbrev pub OnChain : List ℕ → ℕ → ℕ → Type 0
OnChain moves key c = (i : ℕ) → c ≡ suc i → state_key_at moves i ≡ key

module _ (A : Automaton) (p a S : ℕ) (j : Joins) (q : ℕ) (rs : List ℕ) where
  -- what move i gives, where it is one of state q on symbol a
  unfoldable pub move_results : ℕ → List Result
  move_results i = from_joins (candidate_of q a j (move_at A i)) (λ k. read_results A p a S rs k)

  -- what a move from number c on gives
  abbrev pub FromOn : ℕ → List Result → Type 0
  FromOn c xs = (i : ℕ) × (c ≤ i) × (i < length A.moves) × (xs ≡ move_results i)

  -- The results by the moves of state q from number c on were offered.
  abbrev pub ReadDownTo : ℕ → ℕ → List ℕ → ℕ → ℕ → List ℕ → Type 0
  ReadDownTo room n t c k t' = Gathered A room n t (read_results A p a S (q ∷ rs) j) (FromOn c) k t'
