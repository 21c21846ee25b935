-- Programs that stop after a number of rounds in another way, among them those that document 02's sentences are most easily read as. The answer that
-- each gives at a worked model contradicts the demand's statement, read alone.
-- Assumes nothing.
use Rattle.std.specs.Prelude.{ℕ, ◌*◌, ◌≡◌, refl, List, [], ◌∷◌, get_or}
use Rattle.std.proofs.lemmas.Bool.{false≢true, eqb-false}
use Rattle.std.proofs.Common.{ap, sym, ◌∙◌, subst, lit<, lit≤}
use Rattle.automata.specs.Saturation.{all_rounds}
use Rattle.replies.specs.declared.Halt.{Halt}
use Rattle.replies.specs.declared.Reply.{Reply}
use Rattle.replies.specs.declared.Reply.TheVariants.{Refused, NoRun, Open, Walked}
use Rattle.replies.specs.Numbers.{open_word}
use Rattle.services.specs.Judge.{JudgeInput, JudgeDone}
use Rattle.services.specs.Guide.{GuideInput, GuideDone}
use Rattle.models.specs.Computing.{computed}
use Rattle.models.specs.Files.{case_a, start_a, case_ways}
use Rattle.demands.specs.Reach.{Yes}
use Rattle.demands.specs.Reach.Laws.{adds_not}
use Rattle.demands.specs.Refusals.{Returned, judge_refusals, guide_refusals}
use Rattle.demands.specs.Refusals.Laws.{returned_one}
use Rattle.demands.specs.Demand1.{JudgeStates, Answered, GuideStates}
use Rattle.demands.proofs.Demand1.Proof.{demand1_judge, demand1_guide}
use Rattle.demands.specs.Demand2.{judge_for, JudgeMarks, with_rounds, RaisedStays, AllRunDecides}
use Rattle.demands.proofs.Demand2.Proof.{judge_marks}
use Rattle.demands.specs.Demand3.{MarkedYes, Guides}
use Rattle.demands.proofs.Determined.{judge_only, run_only}
use Rattle.demands.proofs.Instances.{input_a, unrefused_A}

-- ---- the inputs: model A in one round and in two, with two moves and two entries lent, or three

unfoldable pub input_one : JudgeInput
input_one = record { case = case_a; start = start_a; rounds = 1; moves = 14; entries = 8; answers = 3 }

unfoldable pub input_two : JudgeInput
input_two = record { case = case_a; start = start_a; rounds = 2; moves = 17; entries = 11; answers = 3 }

unfoldable pub guide_one : ℕ → GuideInput
guide_one n = record { case = case_a; start = start_a; number = n; rounds = 1; moves = 14; entries = 8; cells = 10 * 68; trace = 3 }

unfoldable pub guide_two : GuideInput
guide_two = record { case = case_a; start = start_a; number = 2; rounds = 2; moves = 17; entries = 11; cells = 10 * 68; trace = 3 }

-- the model whose start 0 has another least choice after round 2, in one round
unfoldable pub guide_ways : GuideInput
guide_ways = record { case = case_ways; start = start_a; number = 0; rounds = 1; moves = 22; entries = 11; cells = 10 * 68; trace = 3 }

unrefused_one : Returned judge_refusals input_one 0
unfolding computed input_one
unrefused_one = (demand1_judge input_one).number

unrefused_two : Returned judge_refusals input_two 0
unfolding computed input_two
unrefused_two = (demand1_judge input_two).number

-- ---- 9 for a round that was not run: round 2 would pass what is lent

pub refuses_next_round : (d : JudgeDone) → (d.code ≡ 0 → ⊥) → JudgeMarks input_one d → ⊥
refuses_next_round d bad m = bad (m unrefused_one).judged

pub guide_refuses_next_round : (d : GuideDone) (n : ℕ) → d.reply ≡ Refused n → GuideStates (guide_one 1) d → ⊥
unfolding computed guide_one
guide_refuses_next_round d n e s =
    let (a, bad, _) = subst (λ (r : Reply). Answered (guide_one 1) r d.trace) e s.answered in
    let (b, _, _, _) = (demand1_guide (guide_one 1)).answered in
    bad (returned_one guide_refusals (guide_one 1) a b)

-- ---- no in place of open: of start 0, from which there is a run, and of start 2, from which there is none

pub no_for_open : (d : JudgeDone) → get_or d.answers 0 0 ≡ 0 → JudgeMarks input_one d → ⊥
unfolding computed input_one
no_for_open d e m =
    let (_, still) = ((m unrefused_one).each_mark 0 (lit< tt)).no_left.0 e in
    let (_, adds) = ((judge_marks input_one unrefused_one).each_mark 0 (lit< tt)).is_open.0 refl in
    adds_not case_a 1 adds still

pub no_for_open_without_run : (d : JudgeDone) → get_or d.answers 2 0 ≡ 0 → JudgeMarks input_one d → ⊥
unfolding computed input_one
no_for_open_without_run d e m =
    let (_, still) = ((m unrefused_one).each_mark 2 (lit< tt)).no_left.0 e in
    let (_, adds) = ((judge_marks input_one unrefused_one).each_mark 2 (lit< tt)).is_open.0 refl in
    adds_not case_a 1 adds still

pub guide_no_for_open : (d : GuideDone) → d.reply ≡ NoRun → GuideStates (guide_one 2) d → ⊥
unfolding computed guide_one
guide_no_for_open d e s =
    let (_, _, still, _, _) = subst (λ (r : Reply). Answered (guide_one 2) r d.trace) e s.answered in
    let (_, _, adds, _) = (demand1_guide (guide_one 2)).answered in
    adds_not case_a 1 adds still

-- ---- open where nothing is left to add: after two rounds of model A start 2 is no

pub open_for_no : (d : JudgeDone) → get_or d.answers 2 0 ≡ open_word → JudgeMarks input_two d → ⊥
unfolding computed input_two
open_for_no d e m =
    let (_, adds) = ((m unrefused_two).each_mark 2 (lit< tt)).is_open.0 e in
    let (_, still) = ((judge_marks input_two unrefused_two).each_mark 2 (lit< tt)).no_left.0 refl in
    adds_not case_a 2 adds still

pub guide_open_for_no : (d : GuideDone) → d.reply ≡ Open → GuideStates guide_two d → ⊥
unfolding computed guide_two
guide_open_for_no d e s =
    let (_, _, adds, _) = subst (λ (r : Reply). Answered guide_two r d.trace) e s.answered in
    let (_, _, still, _, _) = (demand1_guide guide_two).answered in
    adds_not case_a 2 adds still

-- ---- all rounds run whatever is asked: start 0 is won in round 2

pub runs_on : (d : JudgeDone) → get_or d.answers 0 0 ≡ 3 → JudgeMarks input_one d → ⊥
unfolding computed input_one
runs_on d e m =
    let t = ((m unrefused_one).each_mark 0 (lit< tt)).yes.0 (subst Yes (sym e) (eqb-false 3 0 refl, eqb-false 3 open_word refl)) in
    let (z, _) = ((judge_marks input_one unrefused_one).each_mark 0 (lit< tt)).is_open.0 refl in
    false≢true (sym z ∙ t)

pub guide_runs_on : (d : GuideDone) (h : Halt) → d.reply ≡ Walked h → GuideStates (guide_one 0) d → ⊥
unfolding computed guide_one
guide_runs_on d h e s =
    let (_, t, _, _) = subst (λ (r : Reply). Answered (guide_one 0) r d.trace) e s.answered in
    let (_, z, _, _) = (demand1_guide (guide_one 0)).answered in
    false≢true (sym z ∙ t)

-- ---- the count of rounds run, the last and empty one included; the number of rounds asked for in its place; and no count

pub counts_the_empty_round : (d : JudgeDone) → d.rounds ≡ 3 → JudgeStates input_a d → ⊥
unfolding computed input_a
counts_the_empty_round d e s = eqb-false 3 2 refl (sym e ∙ ap (λ (x : JudgeDone). x.rounds) (judge_only input_a d s))

pub counts_the_asked : (d : JudgeDone) → d.rounds ≡ all_rounds → JudgeStates input_a d → ⊥
unfolding computed input_a
counts_the_asked d e s = eqb-false all_rounds 2 refl (sym e ∙ ap (λ (x : JudgeDone). x.rounds) (judge_only input_a d s))

pub counts_none : (d : JudgeDone) → d.rounds ≡ 0 → JudgeStates input_one d → ⊥
unfolding computed input_one
counts_none d e s = eqb-false 0 1 refl (sym e ∙ ap (λ (x : JudgeDone). x.rounds) (judge_only input_one d s))

-- ---- the saturated table's least choices in a guide with n: their run rewrites twice, by rules 1 and 2; that of round 1 pops, by rule 0

marked_ways : MarkedYes (judge_for guide_ways 3) 0
unfolding computed guide_ways judge_for
marked_ways = record { judged = refl; start_there = lit< tt; yes = (eqb-false 2 0 refl, eqb-false 2 open_word refl) }

pub chooses_by_all_rounds : (d : GuideDone) → d.trace ≡ 1 ∷ 2 ∷ 0 ∷ [] → Guides guide_ways d → ⊥
unfolding computed guide_ways
chooses_by_all_rounds d e g =
    eqb-false 1 0 refl (ap (λ (l : List ℕ). get_or l 0 0) (sym e ∙ (run_only guide_ways d 3 marked_ways g).1))

-- ---- everything refused, whatever the number: read alone, what is stated of raised rounds and of all rounds needs answers that are 0

pub refuses_raised : (judge : JudgeInput → JudgeDone) → ((x : JudgeInput) → (judge x).code ≡ 0 → ⊥)
    → ((x : JudgeInput) (more : ℕ) → RaisedStays x more (judge x) (judge (with_rounds x more))) → ⊥
unfolding input_two with_rounds
refuses_raised judge bad stays = bad (with_rounds input_two 1) (stays (with_rounds input_two 1) 2 (lit≤ tt) unrefused_two).judged

pub refuses_all_rounds : (judge : JudgeInput → JudgeDone) → ((x : JudgeInput) → (judge x).code ≡ 0 → ⊥) → ((x : JudgeInput) → AllRunDecides x (judge x)) → ⊥
unfolding computed input_a
refuses_all_rounds judge bad decides = bad input_a (decides input_a unrefused_A (lit< tt)).judged
