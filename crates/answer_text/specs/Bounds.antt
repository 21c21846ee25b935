-- What is asked of guide's answer for its text: the start is in the file, and a walk has no more steps than trace words.
-- Assumes nothing.
use Rattle.std.specs.Prelude.{ℕ, ◌≤◌, ◌<◌}
use Rattle.replies.specs.Numbers.{counts_of}
use Rattle.replies.specs.declared.Reply.{Reply}
use Rattle.replies.specs.declared.Reply.TheVariants.{Refused, NoRun, Open, Walked}

-- A reply that is no refusal is for a number below 64, and its steps are at most the trace words.
unfoldable pub Bounded : ℕ → ℕ → Reply → Type 0
Bounded number words (Refused n) = Unit {0}
Bounded number words NoRun = number < 64
Bounded number words Open = number < 64
Bounded number words (Walked h) = (number < 64) × ((counts_of h).steps ≤ words)
