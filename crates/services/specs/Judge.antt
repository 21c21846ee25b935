-- The service judge.
-- Assumes nothing.
pub mod Laws
use Rattle.std.specs.Prelude.{ℕ, Bool, true, false, List, [], ◌∷◌, ◌++◌, map, length, eqb, ltb}
use Rattle.std.proofs.Math.Option.{none, some}
use Rattle.automata.specs.Saturation.{Saturated, adds_move, rounds_added}
use Rattle.automata.specs.Won.{won2}
use Rattle.replies.specs.declared.Acceptance.{Acceptance}
use Rattle.replies.specs.Numbers.{mark_word}
use Rattle.files.specs.Bytes.{Test, first_hit, tests_on}
use Rattle.files.specs.Case.{case_tests, own_of, rules_of}
use Rattle.files.specs.Start.{Files, Start, start_tests, starts_of, configuration_of}
use Rattle.services.specs.Memory.{padded}
use Rattle.words.specs.Lists.{zeros}
use Rattle.services.specs.Saturate.{Lent, saturated, size_tests}

-- the two files, a number of rounds, and the lengths of the move and entry tables and of the answers lent, words of 16 bits
pub record JudgeInput : Type 0 where
  pub case : List ℕ
  pub start : List ℕ
  pub rounds : ℕ
  pub moves : ℕ
  pub entries : ℕ
  pub answers : ℕ

unfoldable pub judge_lent : JudgeInput → Lent
judge_lent x = record { case = x.case; moves = x.moves; entries = x.entries }

unfoldable pub judge_files : JudgeInput → Files
judge_files x = record { case = x.case; start = x.start }

-- refusal 8: fewer answers than starts; "Refusal 8 counts these words."
unfoldable pub answer_tests : List (Test JudgeInput)
answer_tests = record { fails = λ x. ltb x.answers (length (starts_of x.start)); refusal = 8 } ∷ []

-- refusals 1 to 6, 8, 9 and 12
unfoldable pub judge_refusal : JudgeInput → ℕ
judge_refusal =
    first_hit (tests_on (λ x. x.case) case_tests ++ (tests_on judge_files start_tests ++ (answer_tests ++ size_tests judge_lent (λ x. x.rounds))))

-- the least of the rounds run whose table accepts the start's stack from its control
unfoldable pub won : List ℕ → Saturated → List ℕ → Start → Acceptance
won case T file x = won2 (rules_of case) (own_of case) (rounds_added T) (configuration_of file x).stack x.control

-- a round more would add a move to the table
unfoldable pub more_to_add : List ℕ → Saturated → Bool
more_to_add case T = adds_move (rules_of case) T.table

-- "Judge then writes 16 bits per start": "Yes means accepted after at most n rounds. No means not accepted and nothing left to add. Open means
-- not accepted while round n + 1 would add a move."
unfoldable pub mark : List ℕ → Saturated → List ℕ → Start → ℕ
mark case T file x = mark_word (more_to_add case T) (won case T file x)

-- The number returned, the count, "the rounds that added something, 0 in a refusal", and all three lent slices afterwards: "judge and guide
-- zero their working tables".
pub record JudgeDone : Type 0 where
  pub code : ℕ
  pub rounds : ℕ
  pub moves : List ℕ
  pub entries : List ℕ
  pub answers : List ℕ

unfoldable pub judge_left : JudgeInput → ℕ → ℕ → List ℕ → JudgeDone
judge_left x n rounds marks =
    record { code = n; rounds = rounds; moves = zeros x.moves; entries = zeros x.entries; answers = padded x.answers marks }

unfoldable pub judge_answer : JudgeInput → ℕ → JudgeDone
judge_answer x n = elim (eqb n 0) [
  | true ↦ elim (saturated (judge_lent x) x.rounds) [
    | none ↦ judge_left x 9 0 []
    | some T ↦ judge_left x 0 (rounds_added T) (map (mark x.case T x.start) (starts_of x.start))
  ]
  | false ↦ judge_left x n 0 []
]

-- judge(case, start, rounds, moves, entries, answers)
unfoldable pub judge_service : JudgeInput → JudgeDone
judge_service x = judge_answer x (judge_refusal x)
