-- Demand 3, one claim on the whole walk, for all files, numbers of rounds, tables, starts, cells and trace words: for every start that judge marks
-- yes the full guided run of the same rounds arrives after finitely many steps, each a rule that applies, the end in the target; and whatever
-- cells and trace are lent, guide with the same rounds writes the first steps of that one run, halts exactly where document 01 says, and arrives
-- exactly when they suffice. The proof is `demand3` in Demand3/Proof.antt; that it is one run, `one_full_run` in FullRun/Laws.antt.
-- Assumes nothing.
use Rattle.std.specs.Prelude.{ℕ, ◌≤◌, ◌<◌, true, ◌≡◌, ◌↔◌, List, length, get_or, take}
use Rattle.stacks.specs.System.{Run}
use Rattle.automata.specs.Acceptance.{in_target}
use Rattle.replies.specs.declared.Reply.TheVariants.{Walked}
use Rattle.replies.specs.declared.Halt.TheVariants.{CellsShort}
use Rattle.replies.specs.Numbers.{refusal_of}
use Rattle.walks.specs.Guide.{Walk, walk_configuration}
use Rattle.files.specs.Case.{own_of, rules_of}
use Rattle.files.specs.Start.{starts_of, cells_of, configuration_at}
use Rattle.services.specs.Memory.{padded}
use Rattle.words.specs.Lists.{zeros}
use Rattle.services.specs.Judge.{JudgeInput, judge_service}
use Rattle.services.specs.Guide.{GuideInput, GuideDone, cells_lent, guide_service}
use Rattle.guidance.specs.Halt.{halt_by, is_arrival}
use Rattle.demands.specs.Reach.{Yes}
use Rattle.demands.specs.FullRun.{FullRun, used, Stops}
use Rattle.demands.specs.Demand2.{judge_for}

-- judge, with these files, rounds and table lengths, marks start n yes
pub record MarkedYes (x : JudgeInput) (n : ℕ) : Type 0 where
  pub judged : (judge_service x).code ≡ 0
  pub start_there : n < length (starts_of x.start)
  pub yes : Yes (get_or (judge_service x).answers n 0)

-- The full run of start n arrives: its rule numbers are a finite run of the case's rules from the start's configuration into the target.
pub record RunArrives (case start : List ℕ) (rounds n : ℕ) : Type 0 where
  pub trace : List ℕ
  pub last : Walk
  pub full : FullRun case start rounds n trace last
  pub run : Run (rules_of case) (configuration_at start n) trace (walk_configuration last)
  pub in_target_holds : in_target (own_of case) (walk_configuration last) ≡ true

-- What guide answers for the full run ns, where the lent cells hold the start file's cells: "the guide writes the full run's first m steps,
-- m being the least number where the run has arrived, m = t, or step m + 1 would bring the cells used above c, and it answers the first of
-- these that holds, in that order", with m and the cells used.
pub record Walks (x : GuideInput) (ns : List ℕ) (d : GuideDone) : Type 0 where
  pub stops : Stops (rules_of x.case) (length (cells_of x.start)) ns (cells_lent x) x.trace
  pub reply_is : d.reply
      ≡ Walked (halt_by stops.reason
      (record { steps = stops.steps; cells = used (rules_of x.case) (length (cells_of x.start)) ns stops.steps }))
  pub trace_is : d.trace ≡ padded x.trace (take stops.steps ns)

-- What guide answers otherwise: short before any step, with 0 steps and 0 cells.
pub record TooShort (x : GuideInput) (d : GuideDone) : Type 0 where
  pub reply_is : d.reply ≡ Walked (CellsShort (record { steps = 0; cells = 0 }))
  pub trace_is : d.trace ≡ zeros x.trace

-- What guide answers to x by the rule numbers ns of its start's full run. It arrives exactly when the cells and trace words lent suffice.
pub record AnswersRun (x : GuideInput) (ns : List ℕ) (d : GuideDone) : Type 0 where
  pub walks : length (cells_of x.start) ≤ cells_lent x → Walks x ns d
  pub too_short : cells_lent x < length (cells_of x.start) → TooShort x d
  pub arrives_exactly : (is_arrival d.reply ≡ true)
      ↔ ((length ns ≤ x.trace) × (used (rules_of x.case) (length (cells_of x.start)) ns (length ns) ≤ cells_lent x))

-- the input of guide for start n and so many rounds, with slices of so many words lent
unfoldable pub guide_for : List ℕ → List ℕ → ℕ → ℕ → ℕ → ℕ → ℕ → ℕ → GuideInput
guide_for case start rounds n moves entries cells trace =
    record { case = case; start = start; number = n; rounds = rounds; moves = moves; entries = entries; cells = cells; trace = trace }

-- The full run of start n, and what guide makes of it: whatever tables, cells and trace words are lent, unless guide refuses.
pub record GuidedRun (case start : List ℕ) (rounds n : ℕ) : Type 0 where
  pub arrives : RunArrives case start rounds n
  pub answers : (moves entries c t : ℕ) → refusal_of (guide_service (guide_for case start rounds n moves entries c t)).reply ≡ 0
      → AnswersRun (guide_for case start rounds n moves entries c t) arrives.trace (guide_service (guide_for case start rounds n moves entries c t))

abbrev pub Demand3 : Type 0
Demand3 = (x : JudgeInput) (n : ℕ) → MarkedYes x n → GuidedRun x.case x.start x.rounds n

-- Demand 3 of one answer d of guide to x: where judge marks the start yes, its full run arrives and d is by that run.
abbrev pub Guides : GuideInput → GuideDone → Type 0
Guides x d = (answers : ℕ) → MarkedYes (judge_for x answers) x.number
    → (r : RunArrives x.case x.start x.rounds x.number) × AnswersRun x r.trace d
