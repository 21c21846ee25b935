-- Two case files with the same refusal that decode to the same case are answered alike by every service, and print the same texts.
-- Assumes nothing.
use Prim.Native.Nat.{ℕ, zero, suc, ◌*◌}
use Rattle.std.proofs.Math.Bool.{true, false, not}
use Rattle.std.specs.Prelude.{◌≡◌, length, get_or, eqb, leb}
use Rattle.std.proofs.Math.Path.{refl, ap, ap₂}
use Rattle.std.proofs.Common.{sym, ◌∙◌, eqb-true}
use Rattle.std.proofs.Math.Option.{none, some}
use mathlib.Core.List.{List, [], ◌∷◌, ◌++◌, map}
use Rattle.std.proofs.lemmas.Bool.{eqb-false}
use Rattle.words.specs.Lists.{zeros}
use Rattle.words.specs.Laws.Tests.{by_test}
use Rattle.stacks.specs.System.{Rule}
use Rattle.automata.specs.Automaton.{Automaton}
use Rattle.automata.specs.Saturation.{Saturated, adds_move, saturate, all_rounds, rounds_added}
use Rattle.automata.specs.Won.{won2}
use Rattle.replies.specs.Numbers.{mark_word, word_round}
use Rattle.replies.specs.declared.Halt.TheVariants.{CellsShort}
use Rattle.replies.specs.declared.Replayed.TheVariants.{Refused}
use Rattle.walks.specs.Guide.{walked_by, no_run, start_walk, guided}
use Rattle.files.specs.Bytes.{Test, first_hit, tests_on}
use Rattle.files.specs.Case.{case_tests, case_refusal}
use Rattle.files.specs.Start.{Files, start_tests, start_file_right, starts_of, cells_of, configuration_of, start_at}
use Rattle.files.specs.Rewriting.{SameCase}
use Rattle.services.specs.Memory.{lent, entry_width, counted, largest}
use Rattle.services.specs.Saturate.{Lent, saturated, too_large, size_tests, saturate_refusal}
use Rattle.services.specs.Saturate.{SaturateDone, saturate_refused, saturate_filled, saturate_answer, saturate_service}
use Rattle.services.proofs.Saturate.Laws.{case_first, case_passed}
use Rattle.services.specs.Judge.{JudgeInput, judge_lent, judge_files, answer_tests, judge_refusal, won, more_to_add, mark}
use Rattle.services.specs.Judge.{JudgeDone, judge_left, judge_answer, judge_service}
use Rattle.services.specs.Guide.{GuideInput, guide_lent, guide_files, number_tests, guide_refusal, cell_words, cells_lent, start_named, guide_walk, accepted, open_start, guide_run}
use Rattle.services.specs.Guide.{GuideDone, guide_left, refused, guide_answer, guide_service}
use Rattle.services.specs.Replay.{ReplayInput, replay_files, replay_cells, trace_tests, cell_tests, replay_refusal, replay_run, replay_reply, replay_service}
use Rattle.services.specs.Listing.{listing_lent, listing_judge, listing_guide, size_line, largest_count, most_line, reply_line, round_won, start_line, start_lines, refused_text, judged_text, listing_text}
use Rattle.services.specs.Run.{run_guide, answer_text, run_text}
use Rattle.services.specs.Brackets.{BracketsInput, brackets_files, root_text, length_tests, brackets_refusal, BracketsDone, brackets_answer, brackets_service}
use Rattle.services.specs.Brackets.{show_input, shown, show_text}

-- ---- tests

-- each of these tests says the same of x and of y
unfoldable Alike : {X : Type 0} → List (Test X) → X → X → Type 0
Alike [] x y = Unit {0}
Alike (t ∷ ts) x y = (t.fails x ≡ t.fails y) × Alike ts x y

module _ {X : Type 0} where
  alike_hit : (ts : List (Test X)) (x y : X) → Alike ts x y → first_hit ts x ≡ first_hit ts y
  unfolding first_hit Alike
  alike_hit [] x y a = refl
  alike_hit (t ∷ ts) x y (e, a) = λ i. elim (e i) [ true ↦ t.refusal | false ↦ alike_hit ts x y a i ]

  -- the case's tests, then more: the refusal is the same where the case's is, and where each later test says the same
  refused_alike : (case : X → List ℕ) (more : List (Test X)) (x y : X) → case_refusal (case x) ≡ case_refusal (case y) → Alike more x y
      → first_hit (tests_on case case_tests ++ more) x ≡ first_hit (tests_on case case_tests ++ more) y
  refused_alike case more x y e a =
      by_test (eqb (case_refusal (case x)) 0)
      (λ t.
      let sound = eqb-true _ 0 t in
      case_passed case more x sound ∙ alike_hit more x y a ∙ sym (case_passed case more y (sym e ∙ sound)))
      (λ t.
      let bad = eqb-false _ 0 t in
      case_first case more x bad ∙ e ∙ sym (case_first case more y (λ z. bad (e ∙ z))))

module _ {one other : List ℕ} (s : SameCase one other) where
  -- ---- what the tests look at

  module _ (moves entries : ℕ) where
    abbrev lend : List ℕ → Lent
    lend case = record { case = case; moves = moves; entries = entries }

    saturated_alike : (n : ℕ) → saturated (lend one) n ≡ saturated (lend other) n
    unfolding saturated
    saturated_alike n = ap₂ (λ (rules : List Rule) (own : Automaton). saturate rules (lent moves entries) n own) s.same_rules s.same_own

    large_alike : (n : ℕ) → too_large (lend one) n ≡ too_large (lend other) n
    unfolding too_large
    large_alike n = λ i. elim (saturated_alike n i) [ none ↦ true | some T ↦ false ]

    count_alike : largest_count (lend one) ≡ largest_count (lend other)
    unfolding largest_count
    count_alike = λ i. elim (saturated_alike all_rounds i) [ none ↦ 0 | some T ↦ largest (counted T.table) ]

    -- ---- saturate

    saturate_refused_alike : saturate_refusal (lend one) ≡ saturate_refusal (lend other)
    unfolding saturate_refusal size_tests Alike
    saturate_refused_alike = refused_alike (λ x. x.case) (size_tests (λ x. x) (λ x. all_rounds)) (lend one) (lend other) s.same_refusal (large_alike all_rounds, tt)

    pub saturate_alike : saturate_service (lend one) ≡ saturate_service (lend other)
    unfolding saturate_service saturate_answer saturate_refused saturate_filled
    saturate_alike = λ i. elim (eqb (saturate_refused_alike i) 0) [
      | true ↦ elim (saturated_alike all_rounds i) [ none ↦ saturate_refused (lend one) 9 | some T ↦ saturate_filled (lend one) T ]
      | false ↦ saturate_refused (lend one) (saturate_refused_alike i)
    ]

  start_alike : (start : List ℕ) → start_file_right (record { case = one; start = start }) ≡ start_file_right (record { case = other; start = start })
  unfolding start_file_right
  start_alike start = rw s.same_head

  -- ---- judge

  more_alike : (T : Saturated) → more_to_add one T ≡ more_to_add other T
  unfolding more_to_add
  more_alike T = ap (λ (rules : List Rule). adds_move rules T.table) s.same_rules

  mark_alike : (T : Saturated) (start : List ℕ) → mark one T start ≡ mark other T start
  unfolding mark won
  mark_alike T start = λ i x. mark_word (more_alike T i) (won2 (s.same_rules i) (s.same_own i) (rounds_added T) (configuration_of start x).stack x.control)

  module _ (start : List ℕ) (rounds moves entries answers : ℕ) where
    abbrev judging : List ℕ → JudgeInput
    judging case = record { case = case; start = start; rounds = rounds; moves = moves; entries = entries; answers = answers }

    judge_refused_alike : judge_refusal (judging one) ≡ judge_refusal (judging other)
    unfolding judge_refusal judge_files judge_lent start_tests answer_tests size_tests tests_on Alike
    judge_refused_alike =
        refused_alike (λ x. x.case) _ (judging one) (judging other) s.same_refusal
        (refl, (ap not (start_alike start), (refl, (large_alike moves entries rounds, tt))))

    pub judge_alike : judge_service (judging one) ≡ judge_service (judging other)
    unfolding judge_service judge_answer judge_lent judge_left
    judge_alike = λ i. elim (eqb (judge_refused_alike i) 0) [
      | true ↦ elim (saturated_alike moves entries rounds i) [
        | none ↦ judge_left (judging one) 9 0 []
        | some T ↦ judge_left (judging one) 0 (rounds_added T) (map (mark_alike T start i) (starts_of start))
      ]
      | false ↦ judge_left (judging one) (judge_refused_alike i) 0 []
    ]

  -- ---- guide

  module _ (start : List ℕ) (number rounds moves entries cells trace : ℕ) where
    abbrev guiding : List ℕ → GuideInput
    guiding case = record { case = case; start = start; number = number; rounds = rounds; moves = moves; entries = entries; cells = cells; trace = trace }

    guide_refused_alike : guide_refusal (guiding one) ≡ guide_refusal (guiding other)
    unfolding guide_refusal guide_files guide_lent start_tests number_tests size_tests tests_on Alike
    guide_refused_alike =
        refused_alike (λ x. x.case) _ (guiding one) (guiding other) s.same_refusal
        (refl, (ap not (start_alike start), (refl, (large_alike moves entries rounds, tt))))

    run_alike : (T : Saturated) → guide_run (guiding one) T ≡ guide_run (guiding other) T
    unfolding guide_run guide_walk start_named cells_lent
    run_alike T = λ i. elim (accepted T.table start (start_at start number)) [
      | true ↦ elim (leb (length (cells_of start)) (cells_lent (guiding one))) [
        | true ↦ guided (s.same_rules i) T (cells_lent (guiding one)) trace []
            (start_walk T.table (cells_of start) (start_at start number).control (start_at start number).root)
        | false ↦ walked_by (CellsShort (record { steps = 0; cells = 0 })) []
      ]
      | false ↦ elim (more_alike T i) [ true ↦ open_start | false ↦ no_run ]
    ]

    pub guide_alike : guide_service (guiding one) ≡ guide_service (guiding other)
    unfolding guide_service guide_answer guide_lent guide_left
    guide_alike = λ i. elim (eqb (guide_refused_alike i) 0) [
      | true ↦ elim (saturated_alike moves entries rounds i) [
        | none ↦ guide_left (guiding one) (refused 9)
        | some T ↦ guide_left (guiding one) (run_alike T i)
      ]
      | false ↦ guide_left (guiding one) (refused (guide_refused_alike i))
    ]

  -- ---- replay

  module _ (start : List ℕ) (number : ℕ) (trace : List ℕ) (cells : ℕ) where
    abbrev replaying : List ℕ → ReplayInput
    replaying case = record { case = case; start = start; number = number; trace = trace; cells = cells }

    replay_refused_alike : replay_refusal (replaying one) ≡ replay_refusal (replaying other)
    unfolding replay_refusal replay_files replay_cells start_tests number_tests trace_tests cell_tests tests_on Alike
    replay_refused_alike =
        refused_alike (λ x. x.case) _ (replaying one) (replaying other) s.same_refusal
        (refl, (ap not (start_alike start), (refl, (refl, (refl, tt)))))

    replay_run_alike : replay_run (replaying one) ≡ replay_run (replaying other)
    unfolding replay_run replay_cells
    replay_run_alike = rw (s.same_rules, s.same_own)

    pub replay_alike : replay_service (replaying one) ≡ replay_service (replaying other)
    unfolding replay_service replay_reply
    replay_alike = λ i.
        record {
          reply = elim (eqb (replay_refused_alike i) 0) [ true ↦ replay_run_alike i | false ↦ Refused (replay_refused_alike i) ];
          cells = zeros cells;
        }

  -- ---- brackets

  module _ (start : List ℕ) (number text : ℕ) where
    abbrev printing : List ℕ → BracketsInput
    printing case = record { case = case; start = start; number = number; text = text }

    brackets_refused_alike : brackets_refusal (printing one) ≡ brackets_refusal (printing other)
    unfolding brackets_refusal brackets_files root_text start_tests number_tests length_tests tests_on Alike
    brackets_refused_alike =
        refused_alike (λ x. x.case) _ (printing one) (printing other) s.same_refusal (refl, (ap not (start_alike start), (refl, (refl, tt))))

    pub brackets_alike : brackets_service (printing one) ≡ brackets_service (printing other)
    unfolding brackets_service brackets_answer root_text
    brackets_alike = ap (brackets_answer (printing one)) brackets_refused_alike

  -- ---- the texts

  module _ (start : List ℕ) where
    abbrev files : List ℕ → Files
    files case = record { case = case; start = start }

    round_alike : (rounds n : ℕ) → round_won (files one) rounds n ≡ round_won (files other) rounds n
    unfolding round_won listing_judge
    round_alike rounds n = ap (λ (d : JudgeDone). word_round (get_or d.answers n 0)) (judge_alike start rounds (1024 * 5) (64 * entry_width) 64)

    line_alike : (n : ℕ) → start_line (files one) n ≡ start_line (files other) n
    unfolding start_line listing_guide
    line_alike n =
        ap₂ (λ (r : ℕ) (d : GuideDone). reply_line n r d.reply) (round_alike all_rounds n)
        (guide_alike start n all_rounds (1024 * 5) (64 * entry_width) (512 * cell_words) 1024)

    lines_alike : (n k : ℕ) → start_lines (files one) n k ≡ start_lines (files other) n k
    unfolding start_lines
    lines_alike n zero = refl
    lines_alike n (suc k) = ap₂ ◌++◌ (line_alike n) (lines_alike (suc n) k)

    judged_alike : judged_text (files one) ≡ judged_text (files other)
    unfolding judged_text listing_lent
    judged_alike =
        ap₂ ◌++◌
        (ap₂ (λ (d : SaturateDone) (n : ℕ). size_line d.reply ++ most_line n) (saturate_alike (1024 * 5) (64 * entry_width)) (count_alike (1024 * 5) (64 * entry_width)))
        (lines_alike 0 (length (starts_of start)))

    pub listing_alike : listing_text (files one) ≡ listing_text (files other)
    unfolding listing_text listing_judge
    listing_alike =
        ap₂ (λ (d : JudgeDone) (text : List ℕ). elim (eqb d.code 0) [ true ↦ text | false ↦ refused_text d.code ])
        (judge_alike start all_rounds (1024 * 5) (64 * entry_width) 64) judged_alike

    pub run_text_alike : (n rounds : ℕ) → run_text (files one) n rounds ≡ run_text (files other) n rounds
    unfolding run_text run_guide
    run_text_alike n rounds =
        ap₂ (λ (r : ℕ) (d : GuideDone). answer_text n r d.reply d.trace) (round_alike rounds n)
        (guide_alike start n rounds (1024 * 5) (64 * entry_width) (4096 * cell_words) 65536)

    pub show_alike : (n : ℕ) → show_text (files one) n ≡ show_text (files other) n
    unfolding show_text show_input
    show_alike n = ap (λ (d : BracketsDone). shown d.reply d.text) (brackets_alike start n 65536)
