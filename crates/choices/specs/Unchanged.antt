-- Whether the choices of a state leave the joins as they are, and the walk along the chain of its moves that tells.
-- Assumes nothing.
pub mod Laws
use Rattle.std.specs.Prelude.{ℕ, suc, ◌-◌, ◌≤◌, ◌<◌, Bool, ◌&&◌, ◌≡◌, eqb}
use Rattle.std.proofs.Math.Option.{Option, some}
use mathlib.Core.List.{List, Memᴰ}
use Rattle.automata.specs.Automaton.{Automaton, moves_of, move_at}
use Rattle.automata.specs.Derivation.{Joins, join_move}
use Rattle.tables.specs.Rows.{row_at}
use Rattle.tables.specs.Layouts.{move_row}
use Rattle.move_index.specs.Keys.{state_key, state_key_at}
use Rattle.joins.specs.Joining.{candidate_of}

-- Where c is not 0, all choices of state q on symbol a leave j as it is, and move c - 1 is one.
pub record Unchanged (A : Automaton) (q a : ℕ) (j : Joins) (c : ℕ) : Type 0 where
  pub all_leave : 0 < c → (i : ℕ) → Memᴰ i (moves_of A q a) → (k : Joins) → join_move j (move_at A i) ≡ some k → k ≡ j
  pub one_leaves : 0 < c → Memᴰ (c - 1) (moves_of A q a) × (join_move j (move_at A (c - 1)) ≡ some j)

-- the joins with move i, where it is a choice of state q on symbol a
abbrev pub choice_at : List ℕ → ℕ → ℕ → Joins → ℕ → Option Joins
choice_at moves q a j i = candidate_of q a j (row_at move_row moves i)

-- Of the n moves those from number c on leave j as it is, where they are choices; move `oldest` - 1 is one, unless `oldest` is 0; and the
-- move before number c, where there is one, has the key of state q and symbol a.
pub record Walked (moves : List ℕ) (n q a : ℕ) (j : Joins) (c oldest : ℕ) : Type 0 where
  pub within : c ≤ n
  pub keyed : (i : ℕ) → c ≡ suc i → state_key_at moves i ≡ state_key q a
  pub leave : (i : ℕ) → c ≤ i → i < n → (k : Joins) → choice_at moves q a j i ≡ some k → k ≡ j
  pub old : oldest ≤ n
  pub one : 0 < oldest → choice_at moves q a j (oldest - 1) ≡ some j
