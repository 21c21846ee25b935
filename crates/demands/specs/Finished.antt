-- Finished scripts: what the target says of an empty stack and of an empty top order-1 stack, that no step leaves such a configuration, and
-- what judge and guide answer for a start there. The proofs are in Finished/Proof.antt.
-- Assumes nothing.
pub mod Proof
use Rattle.std.specs.Prelude.{ℕ, ◌+◌, ◌<◌, ◌≤◌, Bool, true, false, ◌≡◌, ◌↔◌, length, get_or}
use mathlib.Core.List.{List, [], Memᴰ}
use Rattle.words.specs.Sets.{member}
use Rattle.words.proofs.Sets.Laws.{All}
use Rattle.words.specs.Lists.{zeros}
use Rattle.stacks.specs.Stack.{nil1, cons1, Stack2, nil2, cons2}
use Rattle.stacks.specs.System.{Configuration, Rule, Run}
use Rattle.automata.specs.Acceptance.{accepts2, in_target}
use Rattle.replies.specs.declared.Halt.TheVariants.{Arrived}
use Rattle.replies.specs.declared.Reply.TheVariants.{Walked}
use Rattle.replies.specs.Numbers.{open_word}
use Rattle.files.specs.Case.{head, EdgeBytes, edge_records, case_refusal, own_of}
use Rattle.files.specs.Start.{starts_of, cells_of, configuration_at}
use Rattle.services.specs.Judge.{JudgeInput, JudgeDone}
use Rattle.services.specs.Guide.{GuideInput, GuideDone, cells_lent}
use Rattle.demands.specs.Reach.{round_table, AddsMove, AddsNothing}
use Rattle.demands.specs.Refusals.{Returned, judge_refusals}
use Rattle.demands.specs.Demand2.{judge_for, JudgeMarks}
use Rattle.demands.specs.Demand3.{MarkedYes, Guides}

-- the stack is empty, or its top order-1 stack is
unfoldable pub finished : Stack2 → Bool
finished nil2 = true
finished (cons2 nil1 t) = true
finished (cons2 (cons1 a u s) t) = false

-- ---- the target

-- "The final order-2 set may name controls": of a sound case or not, the empty stack is in the target exactly for the controls that it names.
abbrev pub EmptyTarget : Type 0
EmptyTarget = (case : List ℕ) (p : ℕ) → in_target (own_of case) (record { control = p; stack = nil2 }) ≡ member (head case).final2 p

-- "An entry written with second byte 254 instead of 255 is final: it accepts the empty top order-1 stack": an entry of control p, so written,
-- whose set accepts t
pub record WrittenFinal (case : List ℕ) (p : ℕ) (t : Stack2) : Type 0 where
  pub edge : EdgeBytes
  pub among : Memᴰ edge (edge_records case)
  pub control_is : edge.state ≡ p
  pub second_byte : edge.first ≡ 254
  pub rest : All edge.S (λ q. accepts2 (own_of case) t q ≡ true)

-- An empty order-1 stack on t is in the target exactly for the controls with such an entry.
abbrev pub EmptyTopTarget : Type 0
EmptyTopTarget = (case : List ℕ) → case_refusal case ≡ 0 → (p : ℕ) → p < (head case).P → (t : Stack2)
    → (in_target (own_of case) (record { control = p; stack = cons2 nil1 t }) ≡ true) ↔ WrittenFinal case p t

-- "Entries found by saturation are never final": after any number of rounds the final states are those of the case's own automaton, and
-- none of them is an entry past the file's.
pub record FinalsStay (case : List ℕ) (m : ℕ) : Type 0 where
  pub order_1 : (round_table case m).final1 ≡ (own_of case).final1
  pub order_2 : (round_table case m).final2 ≡ (own_of case).final2
  pub found_never : (e : ℕ) → length (own_of case).entries ≤ e → member (round_table case m).final1 ((own_of case).J + e) ≡ false

abbrev pub NeverFinal : Type 0
NeverFinal = (case : List ℕ) → case_refusal case ≡ 0 → (m : ℕ) → FinalsStay case m

-- ---- runs

-- No step leaves a finished configuration: a run from it has none.
abbrev pub NoStepLeaves : Type 0
NoStepLeaves = (rules : List Rule) (c d : Configuration) (ns : List ℕ) → finished c.stack ≡ true → Run rules c ns d → (ns ≡ []) × (d ≡ c)

-- ---- the answers

-- Judge's word for a finished start is 1, its round being 0, where the start lies in the target; where it does not, it is 0, or open while a round
-- more would add a move.
pub record FinishedWord (x : JudgeInput) (n word : ℕ) : Type 0 where
  pub inside : in_target (own_of x.case) (configuration_at x.start n) ≡ true → word ≡ 1
  pub outside : in_target (own_of x.case) (configuration_at x.start n) ≡ false → AddsNothing x.case x.rounds → word ≡ 0
  pub still_open : in_target (own_of x.case) (configuration_at x.start n) ≡ false → AddsMove x.case x.rounds → word ≡ open_word

abbrev pub FinishedMarks : Type 0
FinishedMarks = (x : JudgeInput) (d : JudgeDone) → JudgeMarks x d → Returned judge_refusals x 0 → (n : ℕ) → n < length (starts_of x.start)
    → finished (configuration_at x.start n).stack ≡ true → FinishedWord x n (get_or d.answers n 0)

-- Arrival is tested before trace and cells: for a finished start marked yes guide has arrived without a step, with the start
-- file's cells, where so many are lent, whatever trace is lent.
pub record ArrivedAtOnce (x : GuideInput) (d : GuideDone) : Type 0 where
  pub reply_is : d.reply ≡ Walked (Arrived (record { steps = 0; cells = length (cells_of x.start) }))
  pub trace_is : d.trace ≡ zeros x.trace

abbrev pub FinishedGuides : Type 0
FinishedGuides = (x : GuideInput) (d : GuideDone) → Guides x d → (answers : ℕ) → MarkedYes (judge_for x answers) x.number
    → finished (configuration_at x.start x.number).stack ≡ true → length (cells_of x.start) ≤ cells_lent x → ArrivedAtOnce x d
