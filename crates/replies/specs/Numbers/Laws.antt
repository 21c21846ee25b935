-- An answer's number tells whether it is a refusal, and a word its round.
-- Assumes nothing.
use Rattle.std.specs.Prelude.{suc, ◌-◌, ◌≤◌, ◌<◌, Bool, true, false, ◌≡◌, refl}
use Rattle.std.proofs.Common.{arith, ne_eqb}
use Rattle.replies.specs.declared.Acceptance.{Acceptance}
use Rattle.replies.specs.declared.Acceptance.TheVariants.{Never, Since}
use Rattle.replies.specs.declared.Halt.TheVariants.{Arrived, TraceFull, CellsShort}
use Rattle.replies.specs.declared.Reply.{Reply}
use Rattle.replies.specs.declared.Reply.TheVariants.{Refused, NoRun, Open, Walked}
use Rattle.replies.specs.declared.Replayed.{Replayed}
use Rattle.replies.specs.declared.Refusal.{Refusal}
use Rattle.replies.specs.declared.Refusal.TheVariants.{CaseContents, CaseHead, CaseRecords, CaseOrder, StartContents, StartRecords, NoSuchStart, FewAnswers, TableTooLarge, OddTrace, FewCells, ToolCodes, LongText}
use Rattle.replies.specs.Numbers.{number_for, number_of, replay_number, answer_word, open_word, mark_word, word_round}

unfoldable pub IsRefusal : Reply → Type 0
IsRefusal (Refused n) = Unit {0}
IsRefusal NoRun = ⊥
IsRefusal Open = ⊥
IsRefusal (Walked h) = ⊥

-- no answer but a refusal has a number from 1 to 255
pub refusal_number : (r : Reply) → 1 ≤ number_of r → number_of r ≤ 255 → IsRefusal r
unfolding IsRefusal
refusal_number (Refused n) l m = tt
refusal_number NoRun l m = omega arith
refusal_number Open l m = omega arith
refusal_number (Walked (Arrived c)) l m = omega arith
refusal_number (Walked (TraceFull c)) l m = omega arith
refusal_number (Walked (CellsShort c)) l m = omega arith

unfoldable pub IsReplayRefusal : Replayed → Type 0
IsReplayRefusal (Replayed.Refused n) = Unit {0}
IsReplayRefusal Replayed.Accepted = ⊥
IsReplayRefusal (Replayed.FailsAt n) = ⊥

-- nor has an answer of replay
pub replay_refusal_number : (r : Replayed) → 1 ≤ replay_number r → replay_number r ≤ 255 → IsReplayRefusal r
unfolding IsReplayRefusal
replay_refusal_number (Replayed.Refused n) l m = tt
replay_refusal_number Replayed.Accepted l m = omega arith
replay_refusal_number (Replayed.FailsAt n) l m = omega arith

-- each refusal has a number
pub numbered : (r : Refusal) → number_for r ≡ 0 → ⊥
numbered CaseContents e = omega arith
numbered CaseHead e = omega arith
numbered CaseRecords e = omega arith
numbered CaseOrder e = omega arith
numbered StartContents e = omega arith
numbered StartRecords e = omega arith
numbered NoSuchStart e = omega arith
numbered FewAnswers e = omega arith
numbered TableTooLarge e = omega arith
numbered OddTrace e = omega arith
numbered FewCells e = omega arith
numbered ToolCodes e = omega arith
numbered LongText e = omega arith

-- ---- words

-- the word of an answer that is a round, or never, tells the round
pub word_round_lem : (more : Bool) (a : Acceptance) → answer_word a < open_word → word_round (mark_word more a) ≡ answer_word a - 1
unfolding word_round mark_word answer_word
word_round_lem true Never l = refl
word_round_lem false Never l = refl
word_round_lem more (Since r) l = rw (word_round, ne_eqb (suc r) open_word (λ e. absurd (omega arith)))
