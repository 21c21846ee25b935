-- States of the recursion over readings, also as rows of nine words.
-- Assumes nothing.
pub mod Laws
use Rattle.std.specs.Prelude.{ℕ, ◌+◌, ◌*◌, List, [], ◌∷◌}
use Rattle.memo_table.specs.declared.State.{State}

-- ---- the kinds of a state in a table of so many moves

abbrev pub read_kind : ℕ → ℕ
read_kind moves = moves * 2 + 1

abbrev pub edges_kind : ℕ → ℕ
edges_kind moves = moves * 2 + 2

-- order-1 states are left
abbrev pub read_state : ℕ → ℕ → ℕ → ℕ → ℕ → ℕ → ℕ → ℕ → State
read_state moves p a S left order B R = record { kind = read_kind moves; control = p; symbol = a; s = S; left = left; named = 0; order = order; b = B; r = R }

-- order-2 states are left, and the edges so far name the order-1 states N
abbrev pub edges_state : ℕ → ℕ → ℕ → ℕ → ℕ → ℕ → ℕ → ℕ → ℕ → State
edges_state moves p a S left N order B R = record { kind = edges_kind moves; control = p; symbol = a; s = S; left = left; named = N; order = order; b = B; r = R }

-- ---- as rows of words

unfoldable pub state_words : State → List ℕ
state_words x = x.kind ∷ x.control ∷ x.symbol ∷ x.s ∷ x.left ∷ x.named ∷ x.order ∷ x.b ∷ x.r ∷ []

abbrev pub state_from : (ℕ → ℕ) → State
state_from f = record { kind = f 0; control = f 1; symbol = f 2; s = f 3; left = f 4; named = f 5; order = f 6; b = f 7; r = f 8 }
