-- The service brackets: its input and what it leaves, as the values of the code give them.
-- Assumes nothing.
pub mod Laws
use Rattle.std.specs.Prelude.{ℕ, List, Result, Ok, Err}
use Rattle.replies.specs.declared.Refusal.{Refusal}
use Rattle.replies.specs.Numbers.{number_for}
use Rattle.replies.specs.declared.Brackets.TheVariants.{Refused, Printed}
use Rattle.replies.specs.declared.Brackets.{Brackets}
use Rattle.services.specs.Brackets.{BracketsInput, BracketsDone}

abbrev pub brackets_input : List ℕ → List ℕ → ℕ → ℕ → BracketsInput
brackets_input case start number text = record { case = case; start = start; number = number; text = text }

abbrev pub brackets_done : Brackets → List ℕ → BracketsDone
brackets_done reply text = record { reply = reply; text = text }

-- the reply with a text's length, or of a refusal
abbrev pub the_reply : Result ℕ Refusal → Brackets
the_reply (Ok n) = Printed n
the_reply (Err r) = Refused (number_for r)
