-- The service's answer.
-- Assumes nothing.
pub mod Laws
pub mod Demands
use Rattle.std.specs.Prelude.{ℕ, List, length, Result, Ok, Err}
use Rattle.replies.specs.declared.Refusal.{Refusal}
use Rattle.replies.specs.Numbers.{number_for}
use Rattle.replies.specs.declared.Saturation.{Saturation}
use Rattle.tables.specs.declared.Table.{Table}
use Rattle.services.specs.Saturate.{Lent, SaturateDone}

-- the input: a case, and the lengths of the lent tables
abbrev pub the_lent : List ℕ → List ℕ → List ℕ → Lent
the_lent case moves entries = record { case = case; moves = length moves; entries = length entries }

-- the reply, and both tables afterwards
abbrev pub the_done : Saturation → List ℕ → List ℕ → SaturateDone
the_done reply moves entries = record { reply = reply; moves = moves; entries = entries }

abbrev pub the_refused : ℕ → Saturation
the_refused code = record { code = code; moves = 0; entries = 0 }

-- the reply with a table, or of a refusal
abbrev pub the_reply : Result Table Refusal → Saturation
the_reply (Ok z) = record { code = 0; moves = z.moves; entries = z.entries }
the_reply (Err r) = the_refused (number_for r)
