-- Demand 2: a start is marked yes exactly if the table after the rounds asked for accepts it, and then with the round in which it is won. A run
-- exists for each yes and none for each no, so that, where nothing is left to add, a start is marked yes exactly if a finite run of the case's
-- rules leads from it into the target. Raising the number of rounds never changes a yes or a no. A sound case is refused for size exactly if the
-- table of the rounds run exceeds the tables lent or document 01's limits, and so only if its saturated table does. Guide stands beside judge: it
-- answers no run and open exactly where judge marks no and open, and refuses for size exactly if judge does. The proofs are in Demand2/Proof.antt.
-- Assumes nothing.
use Rattle.std.specs.Prelude.{ℕ, suc, ◌+◌, ◌≤◌, ◌<◌, false, ◌≡◌, ◌↔◌, List, length, get_or}
use Rattle.replies.specs.declared.Reply.{Reply}
use Rattle.replies.specs.declared.Reply.TheVariants.{NoRun, Open}
use Rattle.replies.specs.Numbers.{open_word, refusal_of}
use Rattle.files.specs.Case.{own_of, case_refusal}
use Rattle.files.specs.Start.{start_refusal, starts_of}
use Rattle.services.specs.Saturate.{Lent, saturate_service}
use Rattle.services.specs.Judge.{JudgeInput, JudgeDone, judge_lent, judge_files, judge_service}
use Rattle.services.specs.Guide.{GuideInput, guide_lent, guide_files, guide_service}
use Rattle.demands.specs.Reach.{Runs, accepted_in, WonIn, AddsMove, AddsNothing, Marks}
use Rattle.demands.specs.Size.{Exceeds, ExceedsIn}
use Rattle.demands.specs.Refusals.{Returned, judge_refusals, guide_refusals}
use Rattle.demands.specs.Demand1.{JudgeStates}

-- ---- words

-- Where no number of the table of refusals applies to x, judge answers 0 and each start has its word.
pub record MarksAll (x : JudgeInput) (d : JudgeDone) : Type 0 where
  pub judged : d.code ≡ 0
  pub each_mark : (n : ℕ) → n < length (starts_of x.start) → Marks x.case x.start x.rounds n (get_or d.answers n 0)

abbrev pub JudgeMarks : JudgeInput → JudgeDone → Type 0
JudgeMarks x d = Returned judge_refusals x 0 → MarksAll x d

-- judge's input with the files, rounds and tables of guide's, and so many answers
unfoldable pub judge_for : GuideInput → ℕ → JudgeInput
judge_for x answers =
    record { case = x.case; start = x.start; rounds = x.rounds; moves = x.moves; entries = x.entries; answers = answers }

-- Where no number applies, guide answers no run and open as judge marks no and open: by what the table after the rounds asked for accepts and has
-- left to add, and by judge's word for the start. Of no run there is none, and where nothing is left to add it is answered exactly if there is
-- none.
pub record NoRunExactly (x : GuideInput) (reply : Reply) : Type 0 where
  pub no_left : (reply ≡ NoRun) ↔ ((accepted_in x.case x.start x.number x.rounds ≡ false) × AddsNothing x.case x.rounds)
  pub is_open : (reply ≡ Open) ↔ ((accepted_in x.case x.start x.number x.rounds ≡ false) × AddsMove x.case x.rounds)
  pub no_run_holds : reply ≡ NoRun → Runs x.case x.start x.number → ⊥
  pub exactly : AddsNothing x.case x.rounds → (reply ≡ NoRun) ↔ (Runs x.case x.start x.number → ⊥)
  pub marked_no : (answers : ℕ) → (judge_service (judge_for x answers)).code ≡ 0
      → (reply ≡ NoRun) ↔ (get_or (judge_service (judge_for x answers)).answers x.number 0 ≡ 0)
  pub marked_open : (answers : ℕ) → (judge_service (judge_for x answers)).code ≡ 0
      → (reply ≡ Open) ↔ (get_or (judge_service (judge_for x answers)).answers x.number 0 ≡ open_word)

abbrev pub GuideRuns : GuideInput → Reply → Type 0
GuideRuns x reply = Returned guide_refusals x 0 → NoRunExactly x reply

-- for every input of judge and guide
abbrev pub Demand2 : Type 0
Demand2 = ((x : JudgeInput) → JudgeMarks x (judge_service x)) × ((x : GuideInput) → GuideRuns x (guide_service x).reply)

-- ---- rounds

-- Rounds of acceptance never exceed the rounds that added something: if round m + 1 adds no move, a start is won in round m at the latest.
abbrev pub RoundsWithin : Type 0
RoundsWithin = (case start : List ℕ) (n r : ℕ) → WonIn case start n r → (m : ℕ) → AddsNothing case m → r ≤ m

-- A word of judge's answers that is not open is at most 1 more than these rounds and than the rounds asked for, and less than 65535: at most
-- 1,024 rounds add a move.
pub record WordsWithin (x : JudgeInput) (answers : List ℕ) : Type 0 where
  pub by_rounds : (n m : ℕ) → (get_or answers n 0 ≡ open_word → ⊥) → AddsNothing x.case m → get_or answers n 0 ≤ suc m
  pub by_asked : (n : ℕ) → (get_or answers n 0 ≡ open_word → ⊥) → get_or answers n 0 ≤ suc x.rounds
  pub by_moves : (n : ℕ) → (get_or answers n 0 ≡ open_word → ⊥) → get_or answers n 0 ≤ 1025

-- judge's input with another number of rounds
unfoldable pub with_rounds : JudgeInput → ℕ → JudgeInput
with_rounds x rounds =
    record { case = x.case; start = x.start; rounds = rounds; moves = x.moves; entries = x.entries; answers = x.answers }

-- "Raising n never changes a yes or a no while the table fits": where no number of the table of refusals applies to x with more rounds, the answer d
-- to x and the answer e to x with more rounds are 0, and a word of d that is not open is the same in e.
pub record WordsStay (x : JudgeInput) (d e : JudgeDone) : Type 0 where
  pub judged : d.code ≡ 0
  pub judged_raised : e.code ≡ 0
  pub each_stays : (n : ℕ) → n < length (starts_of x.start) → (get_or d.answers n 0 ≡ open_word → ⊥) → get_or e.answers n 0 ≡ get_or d.answers n 0

abbrev pub RaisedStays : JudgeInput → ℕ → JudgeDone → JudgeDone → Type 0
RaisedStays x more d e = x.rounds ≤ more → Returned judge_refusals (with_rounds x more) 0 → WordsStay x d e

-- of any two answers that meet demand 1
abbrev pub RaisingKeeps : Type 0
RaisingKeeps = (x : JudgeInput) (more : ℕ) (d e : JudgeDone) → JudgeStates x d → JudgeStates (with_rounds x more) e → RaisedStays x more d e

-- All rounds: where no number applies, nothing is left to add after more than 1,024 rounds, nor after 1,024 if the case has a move of its own; the
-- answer is 0, and no word of it is open.
pub record NoneOpen (x : JudgeInput) (d : JudgeDone) : Type 0 where
  pub judged : d.code ≡ 0
  pub nothing_left : AddsNothing x.case x.rounds
  pub each_decided : (n : ℕ) → get_or d.answers n 0 ≡ open_word → ⊥

abbrev pub AllRunDecides : JudgeInput → JudgeDone → Type 0
AllRunDecides x d = Returned judge_refusals x 0 → 1024 < x.rounds + length (own_of x.case).moves → NoneOpen x d

-- of any answer that meets demand 1
abbrev pub AllRounds : Type 0
AllRounds = (x : JudgeInput) (d : JudgeDone) → JudgeStates x d → AllRunDecides x d

abbrev pub Demand2Rounds : Type 0
Demand2Rounds = RoundsWithin × ((x : JudgeInput) → WordsWithin x (judge_service x).answers) × RaisingKeeps × AllRounds

-- ---- refusal for size

-- A sound case is refused by saturate with 9 exactly if its saturated table passes a limit.
abbrev pub SaturateSize : Lent → ℕ → Type 0
SaturateSize x code = case_refusal x.case ≡ 0 → (code ≡ 9) ↔ Exceeds x

-- Judge refuses with 9, where nothing before it is wrong, exactly if the table of the rounds run passes a limit, and so only if the case's
-- saturated table does,
abbrev pub JudgeSize : JudgeInput → ℕ → Type 0
JudgeSize x code = case_refusal x.case ≡ 0 → start_refusal (judge_files x) ≡ 0 → length (starts_of x.start) ≤ x.answers
    → ((code ≡ 9) ↔ ExceedsIn (judge_lent x) x.rounds) × (code ≡ 9 → Exceeds (judge_lent x))

-- and so does guide.
abbrev pub GuideSize : GuideInput → ℕ → Type 0
GuideSize x code = case_refusal x.case ≡ 0 → start_refusal (guide_files x) ≡ 0 → x.number < length (starts_of x.start)
    → ((code ≡ 9) ↔ ExceedsIn (guide_lent x) x.rounds) × (code ≡ 9 → Exceeds (guide_lent x))

abbrev pub Demand2Size : Type 0
Demand2Size =
    ((x : Lent) → SaturateSize x (saturate_service x).reply.code)
    × ((x : JudgeInput) → JudgeSize x (judge_service x).code)
    × ((x : GuideInput) → GuideSize x (refusal_of (guide_service x).reply))
