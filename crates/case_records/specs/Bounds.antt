-- The bounds of records, part by part.
-- Assumes nothing.
pub mod Laws
use Rattle.std.specs.Prelude.{Bool, true, false, ◌||◌, eqb, ltb}
use Rattle.files.specs.Case.{Head, EdgeBytes}

-- the second byte is right for the state
unfoldable pub first_right : Head → EdgeBytes → Bool
first_right h x = elim (ltb x.state h.P) [ true ↦ eqb x.first 254 || eqb x.first 255 | false ↦ ltb x.first h.J ]
