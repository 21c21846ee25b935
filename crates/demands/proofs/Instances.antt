-- The demands at models A, B and C: their hypotheses are met by the models' files, by computation, and what follows.
-- Assumes nothing.
use Rattle.std.specs.Prelude.{ℕ, ◌*◌, ◌≤◌, ◌<◌, ◌≡◌, refl, List, ◌++◌}
use Rattle.std.proofs.Common.{ap, subst, lit<}
use Rattle.std.proofs.lemmas.Bool.{eqb-false}
use Rattle.automata.specs.Saturation.{all_rounds}
use Rattle.replies.specs.declared.Brackets.TheVariants.{Refused, Printed}
use Rattle.replies.specs.Numbers.{open_word}
use Rattle.words.specs.Lists.{zeros}
use Rattle.files.specs.Rewriting.{Readable}
use Rattle.services.specs.Judge.{JudgeInput}
use Rattle.services.specs.Replay.{ReplayInput}
use Rattle.services.specs.Listing.{ascii}
use Rattle.services.specs.Brackets.{BracketsInput, BracketsDone, brackets_service}
use Rattle.models.specs.Computing.{computed}
use Rattle.models.specs.Examples.{tool_rewritten}
use Rattle.models.specs.Files.{two, case_a, start_a, case_b, start_b, case_b_final, case_c, start_c, case_tool}
use Rattle.demands.specs.Reach.{Runs, WonIn}
use Rattle.demands.specs.Refusals.{Returned, judge_refusals, brackets_early}
use Rattle.demands.specs.Traces.{RealFault}
use Rattle.demands.specs.Demand1.{BracketsStates}
use Rattle.demands.proofs.Demand1.Proof.{demand1_judge}
use Rattle.demands.proofs.Demand2.Proof.{judge_marks}
use Rattle.demands.specs.Demand3.{MarkedYes, GuidedRun}
use Rattle.demands.proofs.Demand3.Proof.{demand3}
use Rattle.demands.proofs.Replays.Proof.{replay_answers}
use Rattle.demands.proofs.Determined.{brackets_only}
use Rattle.demands.proofs.BracketsProof.{brackets_exactly}
use Rattle.demands.specs.Rewritten.{AnswersAs}
use Rattle.demands.proofs.Rewritten.Proof.{rewritten}

-- judge in all rounds, with tables of 17 and 11 words and five answers
unfoldable pub input_a : JudgeInput
input_a = record { case = case_a; start = start_a; rounds = all_rounds; moves = 17; entries = 11; answers = 5 }

unfoldable pub input_b : JudgeInput
input_b = record { case = case_b; start = start_b; rounds = all_rounds; moves = 17; entries = 11; answers = 5 }

unfoldable pub input_b_final : JudgeInput
input_b_final = record { case = case_b_final; start = start_b; rounds = all_rounds; moves = 17; entries = 11; answers = 5 }

unfoldable pub input_c : JudgeInput
input_c = record { case = case_c; start = start_c; rounds = all_rounds; moves = 17; entries = 11; answers = 5 }

-- start 0 of model A is marked yes, so its guided run arrives, whatever tables, cells and trace are lent
pub marked_A : MarkedYes input_a 0
unfolding computed input_a
marked_A = record { judged = refl; start_there = lit< tt; yes = (eqb-false 3 0 refl, eqb-false 3 open_word refl) }

pub guided_A : GuidedRun case_a start_a all_rounds 0
unfolding input_a
guided_A = demand3 input_a 0 marked_A

-- no number of the table applies to model A
pub unrefused_A : Returned judge_refusals input_a 0
unfolding computed input_a
unrefused_A = (demand1_judge input_a).number

-- start 0 is marked yes, so there is a run of the published system
pub run_A : Runs case_a start_a 0
unfolding computed input_a
run_A = ((judge_marks input_a unrefused_A).each_mark 0 (lit< tt)).run (eqb-false 3 0 refl, eqb-false 3 open_word refl)

-- and 3 is its word, so round 2 is the least whose table accepts it
pub won_A : WonIn case_a start_a 0 2
unfolding computed input_a
won_A = (((judge_marks input_a unrefused_A).each_mark 0 (lit< tt)).round (eqb-false 3 0 refl, eqb-false 3 open_word refl) 2).0 refl

-- start 2 of model A is marked no, so there is no run
pub no_run_A : Runs case_a start_a 2 → ⊥
unfolding computed input_a
no_run_A = ((judge_marks input_a unrefused_A).each_mark 2 (lit< tt)).no_run_holds refl

-- start 1 of model B, its lone symbol, is marked no, so there is no run
pub no_run_B : Runs case_b start_b 1 → ⊥
unfolding computed input_b
no_run_B = ((judge_marks input_b (demand1_judge input_b).number).each_mark 1 (lit< tt)).no_run_holds refl

-- "Model B's lone symbol turns to yes if its entry is written with 254": there is a run of the published system, and its guided run arrives
pub marked_B_final : MarkedYes input_b_final 1
unfolding computed input_b_final
marked_B_final = record { judged = refl; start_there = lit< tt; yes = (eqb-false 2 0 refl, eqb-false 2 open_word refl) }

pub run_B_final : Runs case_b_final start_b 1
unfolding computed input_b_final
run_B_final = ((judge_marks input_b_final (demand1_judge input_b_final).number).each_mark 1 (lit< tt)).run (eqb-false 2 0 refl, eqb-false 2 open_word refl)

pub guided_B_final : GuidedRun case_b_final start_b all_rounds 1
unfolding input_b_final
guided_B_final = demand3 input_b_final 1 marked_B_final

-- start 0 of model C is marked yes, so there is a run of the published system, and its guided run arrives
pub marked_C : MarkedYes input_c 0
unfolding computed input_c
marked_C = record { judged = refl; start_there = lit< tt; yes = (eqb-false 3 0 refl, eqb-false 3 open_word refl) }

pub run_C : Runs case_c start_c 0
unfolding computed input_c
run_C = ((judge_marks input_c (demand1_judge input_c).number).each_mark 0 (lit< tt)).run (eqb-false 3 0 refl, eqb-false 3 open_word refl)

pub guided_C : GuidedRun case_c start_c all_rounds 0
unfolding input_c
guided_C = demand3 input_c 0 marked_C

-- replay of the trace of these bytes from start n of model A, with so many bytes lent for cells
unfoldable pub replay_a : ℕ → List ℕ → ℕ → ReplayInput
replay_a n trace cells = record { case = case_a; start = start_a; number = n; trace = trace; cells = cells }

-- rules 0 and 1 from start 0, with nine cells, are accepted, so they are a real fault
pub fault_A : RealFault (replay_a 0 (two 0 ++ two 1) (9 * 6))
unfolding computed replay_a
fault_A = ((replay_answers (replay_a 0 (two 0 ++ two 1) (9 * 6))).accepted.0 refl).1

-- brackets of start n of model A, with so many bytes lent
unfoldable pub brackets_a : ℕ → ℕ → BracketsInput
brackets_a n text = record { case = case_a; start = start_a; number = n; text = text }

-- "Cell 3 of model A prints as `[[1 1{[]}]]`", the root of start 1: whatever answer meets demand 1 with 14 bytes lent has printed it, and 0 after it
pub prints_A : (d : BracketsDone) → BracketsStates (brackets_a 1 14) d → (d.reply ≡ Printed 11) × (d.text ≡ ascii "[[1 1{[]}]]" ++ zeros 3)
unfolding computed brackets_a
prints_A d s = let e = brackets_only (brackets_a 1 14) d s in (ap (λ (z : BracketsDone). z.reply) e, ap (λ (z : BracketsDone). z.text) e)

-- none of 1 to 7 and 12 applies to start 1, whatever is lent
early_A : (text : ℕ) → Returned brackets_early (brackets_a 1 text) 0
unfolding computed brackets_a Returned
early_A text = (((brackets_exactly (brackets_a 1 11)).printed 11).0 refl).0

-- so it is printed in 11 bytes and in more, and refused with 13 in fewer
pub printed_A : (text : ℕ) → 11 ≤ text → (brackets_service (brackets_a 1 text)).reply ≡ Printed 11
unfolding computed brackets_a
printed_A text h = ((brackets_exactly (brackets_a 1 text)).printed 11).1 (early_A text, refl, h)

pub longer_A : (text : ℕ) → text < 11 → (brackets_service (brackets_a 1 text)).reply ≡ Refused 13
unfolding computed brackets_a
longer_A text h = (brackets_exactly (brackets_a 1 text)).longer.1 (early_A text, h)

-- model A in a tool's codes is refused with none of 1, 2 and 12, so it is answered as model A
pub readable_tool : Readable case_tool
unfolding computed
readable_tool = record { in_place = eqb-false 0 1 refl; in_range = eqb-false 0 2 refl; codes_apart = eqb-false 0 12 refl }

pub answers_tool : AnswersAs case_tool case_a
answers_tool = subst (AnswersAs case_tool) tool_rewritten (rewritten case_tool readable_tool)
