-- Document 01's idle programs, those that report another round, those that replay in another way, and those that take finished scripts or
-- tools' codes in another way; in Idle/Brackets.antt those that print in another way, in Idle/MoveCounts.antt those that count moves in another way, and in
-- Idle/Rounds.antt those that stop after a number of rounds in another way. The answer that each gives at a worked model contradicts the demand's statement, read alone.
-- Assumes nothing.
pub mod Brackets
pub mod MoveCounts
pub mod Rounds
use Rattle.std.specs.Prelude.{ℕ, ◌+◌, ◌*◌, ◌≡◌, refl, List, [], ◌∷◌, ◌++◌, map, get_or}
use Rattle.std.proofs.lemmas.Bool.{false≢true, eqb-false}
use Rattle.std.proofs.Common.{ap, sym, ◌∙◌, subst, lit<, lit≤}
use Rattle.std.proofs.Math.Option.{none, some}
use Rattle.automata.specs.Saturation.{Saturated, size_of, table_after, all_rounds}
use Rattle.replies.specs.declared.Counts.{Counts}
use Rattle.replies.specs.declared.Halt.TheVariants.{Arrived, CellsShort}
use Rattle.replies.specs.declared.Reply.{Reply}
use Rattle.replies.specs.declared.Reply.TheVariants.{Refused, NoRun, Walked}
use Rattle.replies.specs.declared.Replayed.TheVariants as Replayed
use Rattle.replies.specs.Numbers.{reply_counts, replay_number, replay_step, open_word}
use Rattle.walks.specs.Guide.{Walk}
use Rattle.words.specs.Lists.{zeros}
use Rattle.files.specs.Case.{own_of, rules_of}
use Rattle.files.specs.Start.{starts_of, start_at, configuration_at}
use Rattle.services.specs.Memory.{padded, move_table}
use Rattle.services.specs.Saturate.{Lent, SaturateDone}
use Rattle.services.specs.Judge.{JudgeInput, JudgeDone, mark}
use Rattle.services.specs.Guide.{GuideInput, GuideDone}
use Rattle.services.specs.Replay.{ReplayInput, ReplayDone, replay_service}
use Rattle.guidance.specs.Halt.{is_arrival}
use Rattle.models.specs.Computing.{computed}
use Rattle.models.specs.Files.{two, case_a, start_a, start_c, start_c_c, case_circle, case_past, case_collapse, start_collapse}
use Rattle.models.specs.Files.{case_b_final, case_b_twice, case_b_named, case_b_other, start_empty, case_finished, start_finished}
use Rattle.models.specs.Files.{case_turned, case_tool_ours, case_tool_broken, case_tool_zero, case_tool_twice, case_tool_early}
use Rattle.demands.specs.Reach.{Yes}
use Rattle.demands.specs.Refusals.{Returned, judge_refusals, guide_refusals}
use Rattle.demands.specs.Refusals.Laws.{returned_one}
use Rattle.demands.specs.FullRun.{saturated_table, walk_from, full_walk, full_trace, full_next, FullRun}
use Rattle.demands.proofs.FullRun.Laws.{one_full_run}
use Rattle.demands.specs.Demand1.{SaturateStates, JudgeStates, Answered, GuideStates, ReplayAnswered, ReplayStates}
use Rattle.demands.proofs.Demand1.Proof.{demand1_judge, demand1_guide}
use Rattle.demands.specs.Demand2.{judge_for, JudgeMarks}
use Rattle.demands.proofs.Demand2.Proof.{judge_marks}
use Rattle.demands.specs.Demand3.{MarkedYes, Guides}
use Rattle.demands.specs.Finished.{finished}
use Rattle.demands.specs.Finished.Proof.{finished_guides}
use Rattle.demands.proofs.Determined.{saturate_only, judge_only, run_only, replay_only}
use Rattle.demands.proofs.Instances.{input_a, unrefused_A, run_A, replay_a}

-- ---- the inputs: model A with tables of 17 and 11 words, 10 cells and three trace words

unfoldable pub lent_a : Lent
lent_a = record { case = case_a; moves = 17; entries = 11 }

-- "with two moves lent", and four words more
unfoldable pub lent_two : Lent
lent_two = record { case = case_a; moves = 14; entries = 11 }

unfoldable pub guide_a : ℕ → GuideInput
guide_a n = record { case = case_a; start = start_a; number = n; rounds = all_rounds; moves = 17; entries = 11; cells = 10 * 68; trace = 3 }

-- the circle model, with as many
unfoldable pub guide_circle : GuideInput
guide_circle = record { case = case_circle; start = start_c; number = 0; rounds = all_rounds; moves = 17; entries = 11; cells = 10 * 68; trace = 3 }

-- model B with its entry written twice, and with a final order-1 set that names it
unfoldable pub lent_twice : Lent
lent_twice = record { case = case_b_twice; moves = 17; entries = 11 }

unfoldable pub lent_named : Lent
lent_named = record { case = case_b_named; moves = 17; entries = 11 }

-- cases in a tool's codes: 5 for our rewrite; one of ours that is not in the record; a byte twice in it and a rule that breaks a bound; a zero;
-- a byte twice; five lines and the first body at byte 33
unfoldable pub lent_turned : Lent
lent_turned = record { case = case_turned 5; moves = 17; entries = 11 }

unfoldable pub lent_ours : Lent
lent_ours = record { case = case_tool_ours; moves = 17; entries = 11 }

unfoldable pub lent_broken : Lent
lent_broken = record { case = case_tool_broken; moves = 17; entries = 11 }

unfoldable pub lent_zero : Lent
lent_zero = record { case = case_tool_zero; moves = 17; entries = 11 }

unfoldable pub lent_twice_coded : Lent
lent_twice_coded = record { case = case_tool_twice; moves = 17; entries = 11 }

unfoldable pub lent_early : Lent
lent_early = record { case = case_tool_early; moves = 17; entries = 11 }

-- judge of empty stacks, with three answers: with a final entry [1,{2}] beside [1,empty], and with model B's entry final
unfoldable pub input_other : JudgeInput
input_other = record { case = case_b_other; start = start_empty; rounds = all_rounds; moves = 17; entries = 11; answers = 3 }

unfoldable pub input_found : JudgeInput
input_found = record { case = case_b_final; start = start_empty; rounds = all_rounds; moves = 17; entries = 11; answers = 3 }

-- a finished script, the empty stack with a final control, with as much lent as for model A
unfoldable pub guide_finished : GuideInput
guide_finished = record { case = case_finished; start = start_finished; number = 3; rounds = all_rounds; moves = 17; entries = 11; cells = 10 * 68; trace = 3 }

-- replay of a trace that collapses, with nine cells, and of one that goes past the target, with seven
unfoldable pub replay_collapse : ℕ → List ℕ → ReplayInput
replay_collapse n trace = record { case = case_collapse; start = start_collapse; number = n; trace = trace; cells = 9 * 6 }

unfoldable pub replay_past : ReplayInput
replay_past = record { case = case_past; start = start_c_c; number = 0; trace = two 0 ++ two 1; cells = 7 * 6 }

-- ---- "Refusing every file"

pub refuses_saturate : (d : SaturateDone) → (d.reply.code ≡ 0 → ⊥) → SaturateStates lent_a d → ⊥
unfolding computed lent_a
refuses_saturate d bad s = bad (ap (λ (e : SaturateDone). e.reply.code) (saturate_only lent_a d s))

pub refuses_judge : (d : JudgeDone) → (d.code ≡ 0 → ⊥) → JudgeMarks input_a d → ⊥
refuses_judge d bad m = bad (m unrefused_A).judged

pub refuses_guide : (d : GuideDone) (n : ℕ) → d.reply ≡ Refused n → GuideStates (guide_a 0) d → ⊥
unfolding computed guide_a
refuses_guide d n e s =
    let (a, bad, _) = subst (λ (r : Reply). Answered (guide_a 0) r d.trace) e s.answered in
    let (b, _, _, _) = (demand1_guide (guide_a 0)).answered in
    bad (returned_one guide_refusals (guide_a 0) a b)

-- ---- "or marking every start no"

pub marks_no : (d : JudgeDone) → get_or d.answers 0 0 ≡ 0 → JudgeMarks input_a d → ⊥
unfolding computed input_a
marks_no d z m = ((m unrefused_A).each_mark 0 (lit< tt)).no_run_holds z run_A

-- ---- "Returning with tables untouched": a word of the memory column is another

pub untouched_refused : (d : SaturateDone) → (d.moves ≡ zeros 14 → ⊥) → SaturateStates lent_two d → ⊥
unfolding computed lent_two
untouched_refused d h s = h (ap (λ (e : SaturateDone). e.moves) (saturate_only lent_two d s))

pub untouched_done : (d : SaturateDone)
    → (d.moves ≡ 0 ∷ 1 ∷ 0 ∷ 0 ∷ 0 ∷ 1 ∷ 1 ∷ 2 ∷ 2 ∷ 0 ∷ 2 ∷ 0 ∷ 0 ∷ 0 ∷ 0 ∷ 0 ∷ 0 ∷ [] → ⊥) → SaturateStates lent_a d → ⊥
unfolding computed lent_a
untouched_done d h s = h (ap (λ (e : SaturateDone). e.moves) (saturate_only lent_a d s))

pub untouched_answers : (d : JudgeDone) → (d.answers ≡ 3 ∷ 1 ∷ 0 ∷ 0 ∷ 0 ∷ [] → ⊥) → JudgeStates input_a d → ⊥
unfolding computed input_a
untouched_answers d h s = h (ap (λ (e : JudgeDone). e.answers) (judge_only input_a d s))

pub untouched_tables : (d : JudgeDone) → (d.moves ≡ zeros 17 → ⊥) → JudgeStates input_a d → ⊥
unfolding input_a
untouched_tables d h s = h s.moves_zero

pub untouched_cells : (d : GuideDone) → (d.cells ≡ zeros (10 * 68) → ⊥) → GuideStates (guide_a 0) d → ⊥
unfolding guide_a
untouched_cells d h s = h s.cells_zero

-- ---- "Saturating one round only"

pub one_round_saturate : (d : SaturateDone) → d.moves ≡ padded 17 (move_table (table_after (rules_of case_a) (own_of case_a) 1)) → SaturateStates lent_a d → ⊥
unfolding computed lent_a
one_round_saturate d e s =
    let z : get_or d.moves 10 0 ≡ 2 = ap (λ (x : SaturateDone). get_or x.moves 10 0) (saturate_only lent_a d s) in
    eqb-false 0 2 refl (sym (ap (λ (l : List ℕ). get_or l 10 0) e) ∙ z)

-- the table after round 1 as the last, with the sizes after both rounds
unfoldable pub after_one : Saturated
after_one =
    record {
      table = table_after (rules_of case_a) (own_of case_a) 1;
      sizes = size_of (own_of case_a) ∷ size_of (table_after (rules_of case_a) (own_of case_a) 1) ∷ [];
    }

pub one_round_judge : (d : JudgeDone) → d.answers ≡ padded 5 (map (mark case_a after_one start_a) (starts_of start_a)) → JudgeMarks input_a d → ⊥
unfolding computed input_a after_one
one_round_judge d e m =
    let (z, _) = ((m unrefused_A).each_mark 0 (lit< tt)).is_open.0 (ap (λ (l : List ℕ). get_or l 0 0) e) in
    false≢true (sym z ∙ ((judge_marks input_a unrefused_A).each_mark 0 (lit< tt)).yes.0 (eqb-false 3 0 refl, eqb-false 3 open_word refl))

-- ---- a word that says yes alone, the round without the 1, and the round of the last table: start 0 is won in round 2, start 1 in round 0

pub yes_alone : (d : JudgeDone) → get_or d.answers 0 0 ≡ 1 → JudgeMarks input_a d → ⊥
unfolding computed input_a configuration_at start_at
yes_alone d e m = false≢true ((((m unrefused_A).each_mark 0 (lit< tt)).round (subst Yes (sym e) (eqb-false 1 0 refl, eqb-false 1 open_word refl)) 0).0 e).accepts

pub round_alone : (d : JudgeDone) → get_or d.answers 0 0 ≡ 2 → JudgeMarks input_a d → ⊥
unfolding computed input_a configuration_at start_at
round_alone d e m = false≢true ((((m unrefused_A).each_mark 0 (lit< tt)).round (subst Yes (sym e) (eqb-false 2 0 refl, eqb-false 2 open_word refl)) 1).0 e).accepts

pub last_round : (d : JudgeDone) → get_or d.answers 1 0 ≡ 3 → JudgeMarks input_a d → ⊥
unfolding computed input_a configuration_at start_at
last_round d e m = false≢true (sym (((((m unrefused_A).each_mark 1 (lit< tt)).round (subst Yes (sym e) (eqb-false 3 0 refl, eqb-false 3 open_word refl)) 2).0 e).least 0 (lit< tt)))

-- ---- "Invented steps or cells"

marked_A0 : MarkedYes (judge_for (guide_a 0) 3) 0
unfolding computed guide_a judge_for
marked_A0 = record { judged = refl; start_there = lit< tt; yes = (eqb-false 3 0 refl, eqb-false 3 open_word refl) }

pub invents_steps : (d : GuideDone) → (d.trace ≡ 0 ∷ 1 ∷ 0 ∷ [] → ⊥) → Guides (guide_a 0) d → ⊥
unfolding computed guide_a
invents_steps d h g = h (run_only (guide_a 0) d 3 marked_A0 g).1

pub invents_cells : (d : GuideDone) (k : ℕ) → (k ≡ 9 → ⊥) → d.reply ≡ Walked (Arrived (record { steps = 2; cells = k })) → Guides (guide_a 0) d → ⊥
unfolding computed guide_a
invents_cells d k h e g = h (ap (λ (r : Reply). (reply_counts r).cells) (sym e ∙ (run_only (guide_a 0) d 3 marked_A0 g).0))

-- ---- "Cells short before any step"

pub short_before : (d : GuideDone) → d.reply ≡ Walked (CellsShort (record { steps = 0; cells = 0 })) → Guides (guide_a 0) d → ⊥
unfolding computed guide_a is_arrival
short_before d e g = false≢true (ap is_arrival (sym e ∙ (run_only (guide_a 0) d 3 marked_A0 g).0))

-- ---- "Circling until cells run out"

marked_circle : MarkedYes (judge_for guide_circle 1) 0
unfolding computed guide_circle judge_for
marked_circle = record { judged = refl; start_there = lit< tt; yes = (eqb-false 3 0 refl, eqb-false 3 open_word refl) }

pub circles : (d : GuideDone) (z : Counts) → d.reply ≡ Walked (CellsShort z) → Guides guide_circle d → ⊥
unfolding computed guide_circle is_arrival
circles d z e g = false≢true (ap is_arrival (sym e ∙ (run_only guide_circle d 1 marked_circle g).0))

-- A run that copies more often before it pops leads into the target too, but is not the full run, however many cells it takes.
pub circle_run : (ns : List ℕ) (w : Walk) → FullRun case_circle start_c all_rounds 0 ns w → ns ≡ 0 ∷ 1 ∷ []
unfolding computed start_at saturated_table walk_from full_walk full_trace full_next
circle_run ns w r = (one_full_run r run).0
  where
    last : Walk
    last = elim (full_walk case_circle start_c all_rounds 0 2) [ none ↦ record { control = 0; root = 0; cells = [] } | some v ↦ v ]

    run : FullRun case_circle start_c all_rounds 0 (0 ∷ 1 ∷ []) last
    run = record { walk_is = refl; trace_is = refl; arrives = refl }

-- ---- no run for every start, and a trace left as it was where there is none

pub no_run_always : (d : GuideDone) → d.reply ≡ NoRun → GuideStates (guide_a 0) d → ⊥
unfolding guide_a
no_run_always d e s = let (_, _, _, h, _) = subst (λ (r : Reply). Answered (guide_a 0) r d.trace) e s.answered in h run_A

pub untouched_trace : (d : GuideDone) → d.reply ≡ NoRun → (d.trace ≡ zeros 3 → ⊥) → GuideStates (guide_a 2) d → ⊥
unfolding guide_a
untouched_trace d e h s = let (_, _, _, _, z) = subst (λ (r : Reply). Answered (guide_a 2) r d.trace) e s.answered in h z

-- ---- replay: refusing every trace, accepting none, and cells left as they were

replay_is : (x : ReplayInput) (d : ReplayDone) → ReplayStates x d → d.reply ≡ (replay_service x).reply
replay_is x d s = ap (λ (e : ReplayDone). e.reply) (replay_only x d s)

pub refuses_replay : (d : ReplayDone) (n : ℕ) → d.reply ≡ Replayed.Refused n → ReplayStates (replay_a 0 (two 0 ++ two 1) (9 * 6)) d → ⊥
unfolding computed replay_a
refuses_replay d n e s =
    let (_, bad) = subst (ReplayAnswered (replay_a 0 (two 0 ++ two 1) (9 * 6))) e s.answered in
    bad (ap replay_number (sym e ∙ replay_is _ d s))

pub accepts_none : (d : ReplayDone) (n : ℕ) → d.reply ≡ Replayed.FailsAt n → ReplayStates (replay_a 0 (two 0 ++ two 1) (9 * 6)) d → ⊥
unfolding computed replay_a
accepts_none d n e s = eqb-false 260 0 refl (ap replay_number (sym e ∙ replay_is _ d s))

pub untouched_replay : (d : ReplayDone) → (d.cells ≡ zeros 54 → ⊥) → ReplayStates (replay_a 0 (two 0 ++ two 1) (9 * 6)) d → ⊥
unfolding replay_a
untouched_replay d h s = h s.cells_zero

-- ---- all rule numbers tested before the first step: rule 99 does not exist, but rule 1 fails before it

pub numbers_tested_first : (d : ReplayDone) → d.reply ≡ Replayed.FailsAt 1 → ReplayStates (replay_a 0 (two 1 ++ two 99) (9 * 6)) d → ⊥
unfolding computed replay_a
numbers_tested_first d e s = eqb-false 1 0 refl (ap replay_step (sym e ∙ replay_is _ d s))

-- ---- a collapse at the wrong order accepted

pub collapses_1_on_order_2 : (d : ReplayDone) → d.reply ≡ Replayed.Accepted → ReplayStates (replay_collapse 1 (two 0)) d → ⊥
unfolding computed replay_collapse
collapses_1_on_order_2 d e s = eqb-false 0 260 refl (ap replay_number (sym e ∙ replay_is _ d s))

pub collapses_2_on_order_1 : (d : ReplayDone) → d.reply ≡ Replayed.Accepted → ReplayStates (replay_collapse 0 (two 1)) d → ⊥
unfolding computed replay_collapse
collapses_2_on_order_1 d e s = eqb-false 0 260 refl (ap replay_number (sym e ∙ replay_is _ d s))

-- ---- a trace accepted that passes through the target and goes on

pub accepts_past_target : (d : ReplayDone) → d.reply ≡ Replayed.Accepted → ReplayStates replay_past d → ⊥
unfolding computed replay_past
accepts_past_target d e s = eqb-false 0 260 refl (ap replay_number (sym e ∙ replay_is _ d s))

-- ---- the target of the saturated table in place of the case's own: start 0 of model A is accepted before its first step

pub saturated_target : (d : ReplayDone) → d.reply ≡ Replayed.Accepted → ReplayStates (replay_a 0 [] (9 * 6)) d → ⊥
unfolding computed replay_a
saturated_target d e s = eqb-false 0 260 refl (ap replay_number (sym e ∙ replay_is _ d s))

-- ---- cells of a step counted before the step is known to apply

pub cells_counted_first : (d : ReplayDone) → d.reply ≡ Replayed.Refused 11 → ReplayStates (replay_a 1 (two 0) (6 * 6)) d → ⊥
unfolding computed replay_a
cells_counted_first d e s = eqb-false 11 260 refl (ap replay_number (sym e ∙ replay_is _ d s))

-- ---- a later step that fails named where cells are missing at "the step it has come to"

pub looks_ahead : (d : ReplayDone) → d.reply ≡ Replayed.FailsAt 1 → ReplayStates (replay_a 0 (two 0 ++ two 99) (8 * 6)) d → ⊥
unfolding computed replay_a
looks_ahead d e s = eqb-false 260 11 refl (ap replay_number (sym e ∙ replay_is _ d s))

-- ---- the start file's cells counted after the first step

pub start_cells_late : (d : ReplayDone) → d.reply ≡ Replayed.FailsAt 0 → ReplayStates (replay_a 0 (two 99) (5 * 6 + 5)) d → ⊥
unfolding computed replay_a
start_cells_late d e s = eqb-false 260 11 refl (ap replay_number (sym e ∙ replay_is _ d s))

-- ---- refusal 3 in place of 4 for "a second entry for the same state and S"

pub three_for_four : (d : SaturateDone) → d.reply.code ≡ 3 → SaturateStates lent_twice d → ⊥
unfolding computed lent_twice
three_for_four d e s = eqb-false 3 4 refl (sym e ∙ ap (λ (x : SaturateDone). x.reply.code) (saturate_only lent_twice d s))

-- ---- a final order-1 set that may name entries

pub names_entries : (d : SaturateDone) → (d.reply.code ≡ 2 → ⊥) → SaturateStates lent_named d → ⊥
unfolding computed lent_named
names_entries d bad s = bad (ap (λ (x : SaturateDone). x.reply.code) (saturate_only lent_named d s))

-- ---- every entry of a control taken as final where one is: of control 1 it is [1,{2}], and state 2 does not accept the empty rest

unrefused_other : Returned judge_refusals input_other 0
unfolding computed input_other
unrefused_other = (demand1_judge input_other).number

pub spreads_the_mark : (d : JudgeDone) → (get_or d.answers 1 0 ≡ 0 → ⊥) → JudgeMarks input_other d → ⊥
unfolding computed input_other
spreads_the_mark d bad m =
    bad (((m unrefused_other).each_mark 1 (lit< tt)).no_left.1 (((judge_marks input_other unrefused_other).each_mark 1 (lit< tt)).no_left.0 refl))

-- ---- "Entries found by saturation are never final": here [0,empty]

unrefused_found : Returned judge_refusals input_found 0
unfolding computed input_found
unrefused_found = (demand1_judge input_found).number

pub found_is_final : (d : JudgeDone) → (get_or d.answers 0 0 ≡ 0 → ⊥) → JudgeMarks input_found d → ⊥
unfolding computed input_found
found_is_final d bad m =
    bad (((m unrefused_found).each_mark 0 (lit< tt)).no_left.1 (((judge_marks input_found unrefused_found).each_mark 0 (lit< tt)).no_left.0 refl))

-- ---- a walk that goes on from an empty stack, or does not arrive there

marked_finished : MarkedYes (judge_for guide_finished 5) 3
unfolding computed guide_finished judge_for
marked_finished = record { judged = refl; start_there = lit< tt; yes = (eqb-false 1 0 refl, eqb-false 1 open_word refl) }

pub steps_from_empty : (d : GuideDone) → (d.reply ≡ Walked (Arrived (record { steps = 0; cells = 5 })) → ⊥) → Guides guide_finished d → ⊥
unfolding computed guide_finished finished configuration_at start_at
steps_from_empty d bad g = bad (finished_guides guide_finished d g 5 marked_finished refl (lit≤ tt)).reply_is

-- ---- b judged by the tool's code: its 5 is our rewrite, so that b may be 1

pub judges_tool_codes : (d : SaturateDone) → (d.reply.code ≡ 0 → ⊥) → SaturateStates lent_turned d → ⊥
unfolding computed lent_turned
judges_tool_codes d bad s = bad (ap (λ (x : SaturateDone). x.reply.code) (saturate_only lent_turned d s))

-- ---- our own codes taken where a record holds

pub takes_ours : (d : SaturateDone) → (d.reply.code ≡ 3 → ⊥) → SaturateStates lent_ours d → ⊥
unfolding computed lent_ours
takes_ours d bad s = bad (ap (λ (x : SaturateDone). x.reply.code) (saturate_only lent_ours d s))

-- ---- 12 tested after 3

pub three_for_twelve : (d : SaturateDone) → d.reply.code ≡ 3 → SaturateStates lent_broken d → ⊥
unfolding computed lent_broken
three_for_twelve d e s = eqb-false 3 12 refl (sym e ∙ ap (λ (x : SaturateDone). x.reply.code) (saturate_only lent_broken d s))

-- ---- a zero passed, or a byte that is there twice

pub passes_zero : (d : SaturateDone) → (d.reply.code ≡ 12 → ⊥) → SaturateStates lent_zero d → ⊥
unfolding computed lent_zero
passes_zero d bad s = bad (ap (λ (x : SaturateDone). x.reply.code) (saturate_only lent_zero d s))

pub passes_twice : (d : SaturateDone) → (d.reply.code ≡ 12 → ⊥) → SaturateStates lent_twice_coded d → ⊥
unfolding computed lent_twice_coded
passes_twice d bad s = bad (ap (λ (x : SaturateDone). x.reply.code) (saturate_only lent_twice_coded d s))

-- ---- the first body still at byte 33

pub early_body : (d : SaturateDone) → (d.reply.code ≡ 1 → ⊥) → SaturateStates lent_early d → ⊥
unfolding computed lent_early
early_body d bad s = bad (ap (λ (x : SaturateDone). x.reply.code) (saturate_only lent_early d s))
