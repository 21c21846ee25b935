-- The text of a walk, by its line and its steps.
-- Assumes nothing.
use Rattle.std.specs.Prelude.{ℕ, ◌≡◌, List, ◌++◌, take}
use Rattle.std.proofs.Common.{ap}
use Rattle.replies.specs.Numbers.{counts_of}
use Rattle.replies.specs.declared.Halt.{Halt}
use Rattle.replies.specs.declared.Reply.TheVariants.{Walked}
use Rattle.services.specs.Listing.{ascii, reply_line}
use Rattle.text.specs.Written.{Written}
use Rattle.text.specs.Written.Laws.{written_same}
use Rattle.services.specs.Run.{numbers_text, trace_line, answer_text}

-- the line of a walk, and the numbers of its steps
pub walk_text : {before after : List ℕ} {end steps : ℕ} (number round : ℕ) (h : Halt) (trace : List ℕ) → steps ≡ (counts_of h).steps
    → Written before 0 (reply_line number round (Walked h) ++ (numbers_text (take steps trace) ++ ascii "\n")) after end
    → Written before 0 (answer_text number round (Walked h) trace) after end
unfolding answer_text trace_line
walk_text number round h trace e w =
    written_same (ap (λ (k : ℕ). reply_line number round (Walked h) ++ (numbers_text (take k trace) ++ ascii "\n")) e) w
