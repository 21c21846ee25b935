-- The text that the program `run` prints for a case file, a start file, the number of a start and a number of rounds, and the numbers that its
-- arguments name.
-- Assumes nothing.
use Rattle.std.specs.Prelude.{ℕ, ◌+◌, ◌*◌, ◌-◌, min, true, false, ◌&&◌, take, leb}
use mathlib.Core.List.{List, [], ◌∷◌, ◌++◌, foldl}
use Rattle.words.specs.Lists.{each}
use Rattle.replies.specs.Numbers.{counts_of}
use Rattle.replies.specs.declared.Counts.{Counts}
use Rattle.replies.specs.declared.Reply.{Reply}
use Rattle.replies.specs.declared.Reply.TheVariants.{Refused, NoRun, Open, Walked}
use Rattle.files.specs.Start.{Files}
use Rattle.services.specs.Memory.{entry_width}
use Rattle.services.specs.Guide.{GuideInput, guide_service, cell_words}
use Rattle.services.specs.Listing.{ascii, decimal, reply_line, round_won, refused_text}

-- what `run` lends: 1,024 moves, 64 entries, 4,096 cells and 65,536 trace words
unfoldable pub run_guide : Files → ℕ → ℕ → GuideInput
run_guide f n rounds =
    record {
      case = f.case;
      start = f.start;
      number = n;
      rounds = rounds;
      moves = 1024 * 5;
      entries = 64 * entry_width;
      cells = 4096 * cell_words;
      trace = 65536;
    }

-- numbers in decimal, a space before each
unfoldable pub spaced_numbers : List ℕ → List ℕ
spaced_numbers ns = each ns (λ n. ascii " " ++ decimal n)

-- numbers in decimal, separated by single spaces
unfoldable pub numbers_text : List ℕ → List ℕ
numbers_text [] = []
numbers_text (n ∷ ns) = decimal n ++ spaced_numbers ns

-- the rule numbers of a walk, one for each step, on a line of their own: an empty one where there is no step
unfoldable pub trace_line : Counts → List ℕ → List ℕ
trace_line c trace = numbers_text (take c.steps trace) ++ ascii "\n"

-- The line of start n, won in round r, in the listing's form, and where it is marked yes the rule numbers of its run. A refusal prints only
-- `refused` and its number.
unfoldable pub answer_text : ℕ → ℕ → Reply → List ℕ → List ℕ
answer_text n r (Refused k) trace = refused_text k
answer_text n r NoRun trace = reply_line n r NoRun
answer_text n r Open trace = reply_line n r Open
answer_text n r (Walked h) trace = reply_line n r (Walked h) ++ trace_line (counts_of h) trace

unfoldable pub run_text : Files → ℕ → ℕ → List ℕ
run_text f n rounds =
    answer_text n (round_won f rounds n) (guide_service (run_guide f n rounds)).reply (guide_service (run_guide f n rounds)).trace

-- ---- the numbers that arguments name

-- n with one more digit behind it, or `most` where that is larger or the byte is no digit
unfoldable pub with_digit : ℕ → ℕ → ℕ → ℕ
with_digit most n b = elim (leb 48 b && leb b 57) [ true ↦ min (n * 10 + (b - 48)) most | false ↦ most ]

-- The number that bytes say in decimal, or `most` where it is larger, or where they say none. For the number of a start `most` is 64, which no
-- start has; for a number of rounds `all_rounds`.
unfoldable pub number_named : ℕ → List ℕ → ℕ
number_named most [] = most
number_named most (b ∷ bs) = foldl (with_digit most) 0 (b ∷ bs)
