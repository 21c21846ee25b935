-- The words of a cell, one for each of 64 states: a row of a slice of rows. A word is 0, or a round plus 1.
-- Assumes nothing.
pub mod Laws
pub mod Turns
use Rattle.std.specs.Prelude.{ℕ, zero, suc, ◌+◌, ◌*◌, true, false, List, get_or, set, ltb}
use Rattle.replies.specs.declared.Acceptance.{Acceptance}
use Rattle.replies.specs.declared.Acceptance.TheVariants.{Never, Since}
use Rattle.replies.specs.Numbers.{answer_word}
use Rattle.rounds.specs.Won.{earlier}

-- the answer that a word stands for
unfoldable pub acceptance_of : ℕ → Acceptance
acceptance_of zero = Never
acceptance_of (suc r) = Since r

-- since when the cell is accepted from state q, by the cell's words; never from a state that has none
unfoldable pub round_in : List ℕ → ℕ → ℕ → Acceptance
round_in rounds cell q = elim (ltb q 64) [ true ↦ acceptance_of (get_or rounds (cell * 64 + q) 0) | false ↦ Never ]

-- the words where the cell is accepted from state q since this or what stands there, the earlier
unfoldable pub with_earlier : List ℕ → ℕ → ℕ → Acceptance → List ℕ
with_earlier rounds cell q a = set rounds (cell * 64 + q) (answer_word (earlier (round_in rounds cell q) a))
