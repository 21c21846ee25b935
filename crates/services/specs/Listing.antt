-- The text that the printing program prints for a case file and a start file.
-- Assumes nothing.
pub mod Decimal
use Rattle.std.specs.Prelude.{ℕ, zero, suc, ◌+◌, ◌*◌, ◌/◌, ◌%◌, true, false, List, [], ◌∷◌, ◌++◌, length, get_or, eqb}
use Prim.Native.Char.{code}
use Prim.Native.String.{String}
use Rattle.std.proofs.Math.Option.{none, some}
use Rattle.replies.specs.Numbers.{word_round}
use Rattle.replies.specs.declared.Saturation.{Saturation}
use Rattle.replies.specs.declared.Counts.{Counts}
use Rattle.replies.specs.declared.Halt.{Halt}
use Rattle.replies.specs.declared.Halt.TheVariants.{Arrived, TraceFull, CellsShort}
use Rattle.replies.specs.declared.Reply.{Reply}
use Rattle.replies.specs.declared.Reply.TheVariants.{Refused, NoRun, Open, Walked}
use Rattle.automata.specs.Saturation.{all_rounds}
use Rattle.files.specs.Start.{Files, starts_of}
use Rattle.services.specs.Memory.{entry_width, counted, largest}
use Rattle.services.specs.Saturate.{Lent, saturated, saturate_service}
use Rattle.services.specs.Judge.{JudgeInput, judge_service}
use Rattle.services.specs.Guide.{GuideInput, guide_service, cell_words}

-- the bytes of a text in ASCII
unfoldable pub ascii : String → List ℕ
ascii String.[] = []
ascii (String.◌∷◌ c s) = code c ∷ ascii s

-- the digits of n before these; the first argument bounds how many digits n has
unfoldable pub digits_before : ℕ → ℕ → List ℕ → List ℕ
digits_before zero n ds = ds
digits_before (suc k) n ds = elim (eqb (n / 10) 0) [
  | true ↦ (48 + n % 10) ∷ ds
  | false ↦ digits_before k (n / 10) ((48 + n % 10) ∷ ds)
]

-- n in decimal
unfoldable pub decimal : ℕ → List ℕ
decimal n = digits_before (suc n) n []

-- "It lends 1,024 moves, 64 entries, 512 cells, 1,024 trace words", and to judge as many answers as a file has starts at most.
unfoldable pub listing_lent : Files → Lent
listing_lent f = record { case = f.case; moves = 1024 * 5; entries = 64 * entry_width }

unfoldable pub listing_judge : Files → ℕ → JudgeInput
listing_judge f rounds = record { case = f.case; start = f.start; rounds = rounds; moves = 1024 * 5; entries = 64 * entry_width; answers = 64 }

unfoldable pub listing_guide : Files → ℕ → GuideInput
listing_guide f n =
    record {
      case = f.case;
      start = f.start;
      number = n;
      rounds = all_rounds;
      moves = 1024 * 5;
      entries = 64 * entry_width;
      cells = 512 * cell_words;
      trace = 1024;
    }

-- `moves 3 entries 3`
unfoldable pub size_line : Saturation → List ℕ
size_line r = ascii "moves " ++ decimal r.moves ++ ascii " entries " ++ decimal r.entries ++ ascii "\n"

-- the largest number of moves that an entry of the saturated table has
unfoldable pub largest_count : Lent → ℕ
largest_count x = elim (saturated x all_rounds) [ none ↦ 0 | some T ↦ largest (counted T.table) ]

-- "The listing gains a line after its first: `most` and the largest such count": `most 1`
unfoldable pub most_line : ℕ → List ℕ
most_line n = ascii "most " ++ decimal n ++ ascii "\n"

-- "The listing puts the round directly before the steps", behind which the cells stand.
unfoldable pub counts_text : ℕ → Counts → List ℕ
counts_text r c = ascii " " ++ decimal r ++ ascii " " ++ decimal c.steps ++ ascii " " ++ decimal c.cells

-- "Before them stands `trace` or `cells` if the walk halted so."
unfoldable pub halt_text : ℕ → Halt → List ℕ
halt_text r (Arrived c) = counts_text r c
halt_text r (TraceFull c) = ascii " trace" ++ counts_text r c
halt_text r (CellsShort c) = ascii " cells" ++ counts_text r c

unfoldable pub reply_text : ℕ → Reply → List ℕ
reply_text r (Refused n) = ascii " refused " ++ decimal n
reply_text r NoRun = ascii " no"
reply_text r Open = ascii " open"
reply_text r (Walked h) = ascii " yes" ++ halt_text r h

-- `start 0 yes 2 2 9`: the line of start n, won in round r, where guide answers so
unfoldable pub reply_line : ℕ → ℕ → Reply → List ℕ
reply_line n r reply = ascii "start " ++ decimal n ++ reply_text r reply ++ ascii "\n"

-- the round in which start n was won, where judge with so many rounds marks it yes
unfoldable pub round_won : Files → ℕ → ℕ → ℕ
round_won f rounds n = word_round (get_or (judge_service (listing_judge f rounds)).answers n 0)

-- "The listing runs all rounds."
unfoldable pub start_line : Files → ℕ → List ℕ
start_line f n = reply_line n (round_won f all_rounds n) (guide_service (listing_guide f n)).reply

-- the lines of k starts from number n on
unfoldable pub start_lines : Files → ℕ → ℕ → List ℕ
start_lines f n zero = []
start_lines f n (suc k) = start_line f n ++ start_lines f (suc n) k

-- "A refusal prints only `refused` and its number": the number with which judge would refuse.
unfoldable pub refused_text : ℕ → List ℕ
refused_text n = ascii "refused " ++ decimal n ++ ascii "\n"

unfoldable pub judged_text : Files → List ℕ
judged_text f =
    size_line (saturate_service (listing_lent f)).reply
    ++ most_line (largest_count (listing_lent f))
    ++ start_lines f 0 (length (starts_of f.start))

unfoldable pub listing_text : Files → List ℕ
listing_text f =
    let n : ℕ = (judge_service (listing_judge f all_rounds)).code in
    elim (eqb n 0) [ true ↦ judged_text f | false ↦ refused_text n ]
