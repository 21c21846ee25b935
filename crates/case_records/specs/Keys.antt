-- The order of keys, number by number, and of edges.
-- Assumes nothing.
pub mod Laws
use Rattle.std.specs.Prelude.{ℕ, Bool, true, false, List, [], ◌∷◌, eqb, ltb}
use Rattle.files.specs.Case.{Head, EdgeBytes}

-- the second byte as it counts in the order of edges: that of an entry does not
unfoldable pub order_byte : Head → EdgeBytes → ℕ
order_byte h x = elim (ltb x.state h.P) [ true ↦ 0 | false ↦ x.first ]

-- Edges by (state, S, second byte), entries by (state, S).
unfoldable pub edge_order : Head → EdgeBytes → List ℕ
edge_order h x = x.state ∷ x.S ∷ order_byte h x ∷ []
