-- The order-1 states that edges name. A state whose choices all leave the joins as they are need not be named: its reading adds nothing.
-- Assumes nothing.
pub mod Laws
use Rattle.std.specs.Prelude.{ℕ, true, false, ltb}
use Rattle.words.specs.Sets.{join, single}

-- the states N with one more, unless c, which is not 0, tells that its choices leave the joins as they are
unfoldable pub named_with : ℕ → ℕ → ℕ → ℕ
named_with N first c = elim (ltb 0 c) [ true ↦ N | false ↦ join N (single first) ]
