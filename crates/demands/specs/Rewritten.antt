-- Tools' own codes: "A case with such a body has the marks, trace and refusals from 3 on of the case rewritten to our codes; a code not in the
-- record is refusal 3." The proofs are in Rewritten/Proof.antt.
-- Assumes nothing.
use Rattle.std.specs.Prelude.{ℕ, true, ◌≡◌, get_or}
use mathlib.Core.List.{List, map, Memᴰ}
use Rattle.files.specs.Bytes.{records_of}
use Rattle.files.specs.Codes.{in_our_codes}
use Rattle.files.specs.Case.{case_placed, head, head_right, codes_of, case_refusal}
use Rattle.files.specs.Rewriting.{rewriting, Readable}
use Rattle.services.specs.Saturate.{SaturateDone, saturate_service}
use Rattle.services.specs.Judge.{JudgeDone, judge_service}
use Rattle.services.specs.Guide.{GuideDone, guide_service}
use Rattle.services.specs.Replay.{ReplayDone, replay_service}
use Rattle.services.specs.Listing.{listing_text}
use Rattle.services.specs.Run.{run_text}
use Rattle.services.specs.Brackets.{BracketsDone, brackets_service, show_text}
use Rattle.demands.specs.Refusals.{CodesWrong}
use Rattle.demands.specs.Demand1.{SaturateStates, JudgeStates, GuideStates, ReplayStates, BracketsStates}
use Rattle.demands.specs.Demand3.{Guides}

-- ---- the case rewritten

-- "The case rewritten to our codes": of first byte 4, with its bodies in place, the same records in bodies 1, 3 and 4, and in body 2 each rule
-- with our code.
pub record IsRewriting (case other : List ℕ) : Type 0 where
  pub first_byte : get_or other 0 0 ≡ 4
  pub in_place : case_placed other ≡ true
  pub heads : records_of other 0 14 ≡ records_of case 0 14
  pub rules : records_of other 1 5 ≡ map (in_our_codes (codes_of case)) (records_of case 1 5)
  pub edges : records_of other 2 4 ≡ records_of case 2 4
  pub moves : records_of other 3 19 ≡ records_of case 3 19

abbrev pub RewritingIs : Type 0
RewritingIs = (case : List ℕ) → case_placed case ≡ true → IsRewriting case (rewriting case)

-- ---- its answers

-- Every service answers the one case as the other, with the same reply and the same words in all that is lent, for every start file, number of a
-- start and of rounds, trace and length of what is lent; and the three programs print the same.
pub record AnswersAs (case other : List ℕ) : Type 0 where
  pub saturates : (moves entries : ℕ)
      → saturate_service (record { case = case; moves = moves; entries = entries }) ≡ saturate_service (record { case = other; moves = moves; entries = entries })
  pub judges : (start : List ℕ) (rounds moves entries answers : ℕ)
      → judge_service (record { case = case; start = start; rounds = rounds; moves = moves; entries = entries; answers = answers })
      ≡ judge_service (record { case = other; start = start; rounds = rounds; moves = moves; entries = entries; answers = answers })
  pub guides : (start : List ℕ) (number rounds moves entries cells trace : ℕ)
      → guide_service (record { case = case; start = start; number = number; rounds = rounds; moves = moves; entries = entries; cells = cells; trace = trace })
      ≡ guide_service (record { case = other; start = start; number = number; rounds = rounds; moves = moves; entries = entries; cells = cells; trace = trace })
  pub replays : (start : List ℕ) (number : ℕ) (trace : List ℕ) (cells : ℕ)
      → replay_service (record { case = case; start = start; number = number; trace = trace; cells = cells })
      ≡ replay_service (record { case = other; start = start; number = number; trace = trace; cells = cells })
  pub prints : (start : List ℕ) (number text : ℕ)
      → brackets_service (record { case = case; start = start; number = number; text = text })
      ≡ brackets_service (record { case = other; start = start; number = number; text = text })
  pub lists : (start : List ℕ) → listing_text (record { case = case; start = start }) ≡ listing_text (record { case = other; start = start })
  pub runs : (start : List ℕ) (number rounds : ℕ)
      → run_text (record { case = case; start = start }) number rounds ≡ run_text (record { case = other; start = start }) number rounds
  pub shows : (start : List ℕ) (number : ℕ) → show_text (record { case = case; start = start }) number ≡ show_text (record { case = other; start = start }) number

-- A case that is refused with none of 1, 2 and 12 is answered as its rewriting.
abbrev pub Rewritten : Type 0
Rewritten = (case : List ℕ) → Readable case → AnswersAs case (rewriting case)

-- ---- answers of any program

-- Whatever answer meets the demands for the one case, and whatever meets them for the other, are the same: demand 1 of saturate, judge, replay
-- and brackets, demands 1 and 3 of guide.
pub record SharesAnswers (case other : List ℕ) : Type 0 where
  pub saturates : (moves entries : ℕ) (d e : SaturateDone)
      → SaturateStates (record { case = case; moves = moves; entries = entries }) d
      → SaturateStates (record { case = other; moves = moves; entries = entries }) e
      → d ≡ e
  pub judges : (start : List ℕ) (rounds moves entries answers : ℕ) (d e : JudgeDone)
      → JudgeStates (record { case = case; start = start; rounds = rounds; moves = moves; entries = entries; answers = answers }) d
      → JudgeStates (record { case = other; start = start; rounds = rounds; moves = moves; entries = entries; answers = answers }) e
      → d ≡ e
  pub guides : (start : List ℕ) (number rounds moves entries cells trace : ℕ) (d e : GuideDone)
      → GuideStates (record { case = case; start = start; number = number; rounds = rounds; moves = moves; entries = entries; cells = cells; trace = trace }) d
      → Guides (record { case = case; start = start; number = number; rounds = rounds; moves = moves; entries = entries; cells = cells; trace = trace }) d
      → GuideStates (record { case = other; start = start; number = number; rounds = rounds; moves = moves; entries = entries; cells = cells; trace = trace }) e
      → Guides (record { case = other; start = start; number = number; rounds = rounds; moves = moves; entries = entries; cells = cells; trace = trace }) e
      → d ≡ e
  pub replays : (start : List ℕ) (number : ℕ) (trace : List ℕ) (cells : ℕ) (d e : ReplayDone)
      → ReplayStates (record { case = case; start = start; number = number; trace = trace; cells = cells }) d
      → ReplayStates (record { case = other; start = start; number = number; trace = trace; cells = cells }) e
      → d ≡ e
  pub prints : (start : List ℕ) (number text : ℕ) (d e : BracketsDone)
      → BracketsStates (record { case = case; start = start; number = number; text = text }) d
      → BracketsStates (record { case = other; start = start; number = number; text = text }) e
      → d ≡ e

abbrev pub Shared : Type 0
Shared = (case : List ℕ) → Readable case → SharesAnswers case (rewriting case)

-- ---- refusals 3 and 12

-- "A code not in the record is refusal 3", also one of our own: x is a rule's record, and its third byte is its code.
abbrev pub UnlistedCode : Type 0
UnlistedCode = (case : List ℕ) → Readable case → (x : List ℕ) → Memᴰ x (records_of case 1 5) → (Memᴰ (get_or x 2 0) (codes_of case) → ⊥)
    → case_refusal case ≡ 3

-- 12 "after 2", whatever else is wrong
abbrev pub CodesRefused : Type 0
CodesRefused = (case : List ℕ) → case_placed case ≡ true → head_right (head case) ≡ true → CodesWrong case → case_refusal case ≡ 12
