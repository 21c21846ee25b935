-- Demand 1, proved case by case of what each service answers.
-- Assumes nothing.
use Prim.Native.Nat.{ℕ, ◌≤◌, ◌<◌}
use Rattle.std.specs.Prelude.{◌≡◌, true, false, eqb}
use Rattle.std.proofs.Math.Path.{refl, ap, sym, subst}
use Rattle.std.proofs.Common.{◌∙◌, inl, inr, le_trans, lt_irrefl, lt_of_lt_of_le, arith}
use Rattle.std.proofs.Math.Option.{none, some, none-ne-some}
use mathlib.Core.List.{List, [], ◌∷◌, map}
use Rattle.std.proofs.Math.ListN.{length, length-map}
use borrow.Author.Tests.{eqb-true, eqb-false}
use Rattle.words.specs.Lists.{zeros}
use Rattle.words.specs.Lists.Laws.{length_zeros}
use Rattle.words.specs.Laws.Tests.{by_test}
use Rattle.automata.specs.Saturation.{Saturated, all_rounds, rounds_added}
use Rattle.automata.specs.Facts.{Closed}
use Rattle.rounds.specs.Limits.{KeepsLimits, saturate_some, within_keeps, rounds_min}
use Rattle.rounds.specs.Ends.{rounds_end}
use Rattle.replies.specs.declared.Replayed.{Replayed}
use Rattle.replies.specs.declared.Brackets.TheVariants as Brackets
use Rattle.replies.specs.Numbers.{counts_of}
use Rattle.walks.specs.Guide.{Report, walked_by, no_run}
use Rattle.files.specs.Case.{case_refusal, own_of, rules_of}
use Rattle.files.specs.Start.{starts_of}
use Rattle.services.specs.Memory.{padded, move_table, entry_table, lent}
use Rattle.services.specs.Memory.Laws.{padded_none, length_padded, length_move_table, length_entry_table}
use Rattle.services.specs.Saturate.{Lent, saturated, SaturateDone, saturate_refused, saturate_filled, saturate_service}
use Rattle.services.proofs.Saturate.Laws.{SaturateCase, case_refused, size_exceeded, filled, saturate_cases}
use Rattle.services.specs.Judge.{JudgeInput, JudgeDone, judge_files, judge_lent, mark, judge_left, judge_service, more_to_add}
use Rattle.services.specs.Judge.Laws.{JudgeCase, start_refused, answers_short, judged}
use Rattle.services.proofs.Judge.Laws.{judge_cases}
use Rattle.services.specs.Guide.{GuideInput, GuideDone, accepted, guide_files, guide_lent, start_named, guide_walk, guide_left, refused, guide_service, open_start}
use Rattle.services.proofs.Guide.Laws.{GuideCase, Started, start_missing, no_run_holds, cells_short, walked, guide_cases, walk_goes, walk_short, is_open}
use Rattle.services.specs.Replay.{ReplayInput, ReplayDone, replay_files, replay_run, replay_service}
use Rattle.services.proofs.Replay.Laws.{Replays, replies, ReplayCase, trace_odd, start_short, replays, replay_cases}
use Rattle.services.specs.Brackets.{BracketsInput, root_text, brackets_refusal, brackets_service}
use Rattle.services.specs.Brackets.Laws.{answer_refused, answer_printed}
use Rattle.demands.specs.Size.{Exceeds, ExceedsIn}
use Rattle.demands.specs.Size.Laws.{saturated_table_lem, none_exceeds, exceeds_none, case_saturates, none_exceeds_in, exceeds_in_none}
use Rattle.demands.specs.Reach.Laws.{closed_is_nothing}
use Rattle.demands.specs.Traces.{CellsMissing}
use Rattle.demands.specs.Traces.Laws.{Ends, accepts, fails_at, is_short, replay_ends, fault_fits, fails_fits}
use Rattle.demands.specs.Refusals.{Refusal, refusal, Returned, AnswersShort, StartMissing, TraceOdd}
use Rattle.demands.specs.Refusals.{saturate_refusals, judge_refusals, guide_refusals, replay_refusals, brackets_refusals}
use Rattle.demands.specs.Refusals.Laws.{case_returned, past_case, files_case, files_start, past_files, applies_here, applies_not, none_applies}
use Rattle.demands.specs.Refusals.Brackets.{brackets_returned, text_fits}
use Rattle.demands.specs.FullRun.{full_trace}
use Rattle.demands.proofs.FullRun.Laws.{full_short}
use Rattle.demands.specs.Demand1.{SaturateStates, JudgeStates, Answered, GuideStates, ReplayAnswered, ReplayStates, BracketsStates, Demand1, CountsRounds}
use Rattle.demands.specs.Laws.Accepted.{table_marks, mark_at, started_runs, started_none, is_saturated, table_adds, table_nothing, started_accepts}
use Rattle.demands.proofs.Demand3.Answer.{walk_report}

-- ---- 9, the last number

module _ {X : Type 0} (part : X → Lent) (rounds : X → ℕ) (x : X) where
  -- the line of refusal 9 for the rounds run
  abbrev size_line : Refusal X
  size_line = refusal 9 (λ y. ExceedsIn (part y) (rounds y))

  size_applies : saturated (part x) (rounds x) ≡ none → Returned (size_line ∷ []) x 9
  size_applies o = applies_here size_line [] x (none_exceeds_in (part x) (rounds x) o)

  size_passes : {T : Saturated} → saturated (part x) (rounds x) ≡ some T → Returned (size_line ∷ []) x 0
  size_passes {T} o =
      applies_not size_line [] x 0 (λ h. none-ne-some T (sym (exceeds_in_none (part x) (rounds x) h) ∙ o)) (none_applies x)

-- ---- saturate

module _ (x : Lent) where
  exceeds_applies : case_refusal x.case ≡ 0 → saturated x all_rounds ≡ none → Returned (refusal 9 Exceeds ∷ []) x 9
  exceeds_applies sound o = applies_here (refusal 9 Exceeds) [] x (none_exceeds x sound o)

  exceeds_passes : {T : Saturated} → case_refusal x.case ≡ 0 → saturated x all_rounds ≡ some T → Returned (refusal 9 Exceeds ∷ []) x 0
  exceeds_passes {T} sound o =
      applies_not (refusal 9 Exceeds) [] x 0 (λ h. none-ne-some T (sym (exceeds_none x sound h) ∙ o)) (none_applies x)

  -- the lines behind those of the case
  past_saturate : (n : ℕ) → case_refusal x.case ≡ 0 → Returned (refusal 9 Exceeds ∷ []) x n → Returned saturate_refusals x n
  past_saturate n sound r = past_case x (λ y. y.case) (refusal 9 Exceeds ∷ []) n sound r

  -- a table within the limits fits the slices lent
  tables_fit : {T : Saturated} → saturated x all_rounds ≡ some T → (length (move_table T.table) ≤ x.moves) × (length (entry_table T.table) ≤ x.entries)
  unfolding saturated lent
  tables_fit {T} e =
      let s = saturate_some (rules_of x.case) (lent x.moves x.entries) (own_of x.case) all_rounds e in
      let k : KeepsLimits (lent x.moves x.entries) T.table = within_keeps (lent x.moves x.entries) T.table s.limits_kept in
      let m = length_move_table T.table in
      let n = length_entry_table T.table in
      (omega (arith, k.moves_fit), omega (arith, k.entries_fit))

  refused_states : (n : ℕ) → (n ≡ 0 → ⊥) → Returned saturate_refusals x n → SaturateStates x (saturate_refused x n)
  unfolding saturate_refused
  refused_states n bad first =
      record {
        number = first;
        moves_length = length_zeros x.moves;
        entries_length = length_zeros x.entries;
        done = λ z. absurd (bad z);
        refused = λ _. record { moves_zero = refl; entries_zero = refl; move_count_holds = refl; entry_count = refl };
      }

  pub demand1_saturate : SaturateStates x (saturate_service x)
  unfolding saturate_filled
  demand1_saturate = go (saturate_service x) (saturate_cases x)
    where
      go : (d : SaturateDone) → SaturateCase x d → SaturateStates x d
      go d (case_refused bad) = refused_states _ bad (case_returned x (λ y. y.case) (refusal 9 Exceeds ∷ []) bad)
      go d (size_exceeded s o) = refused_states 9 (eqb-false 9 0 refl) (past_saturate 9 s (exceeds_applies s o))
      go d (filled T s o) =
          let f = tables_fit o in
          record {
            number = past_saturate 0 s (exceeds_passes s o);
            moves_length = length_padded x.moves _ f.0;
            entries_length = length_padded x.entries _ f.1;
            done = λ _. record {
              table = T.table;
              saturated = saturated_table_lem x s o;
              moves_are = refl;
              entries_are = refl;
              move_count_holds = refl;
              entry_count = refl;
            };
            refused = λ h. absurd (h refl);
          }

-- ---- judge

module _ (x : JudgeInput) where
  abbrev answer_lines : List (Refusal JudgeInput)
  answer_lines = refusal 8 AnswersShort ∷ refusal 9 (λ y. ExceedsIn (judge_lent y) y.rounds) ∷ []

  enough_judge : (n : ℕ) → length (starts_of x.start) ≤ x.answers → Returned (refusal 9 (λ y. ExceedsIn (judge_lent y) y.rounds) ∷ []) x n → Returned answer_lines x n
  enough_judge n h r = applies_not (refusal 8 AnswersShort) _ x n (λ l. lt_irrefl _ (lt_of_lt_of_le l h)) r

  judge_refused : (n : ℕ) → (n ≡ 0 → ⊥) → Returned judge_refusals x n → JudgeStates x (judge_left x n 0 [])
  unfolding judge_left
  judge_refused n bad r =
      record {
        number = r;
        moves_zero = refl;
        entries_zero = refl;
        answers_length = ap length (padded_none x.answers) ∙ length_zeros x.answers;
        done = λ z. absurd (bad z);
        counted = λ z. absurd (bad z);
        refused = λ _. (padded_none x.answers, refl);
      }

  -- the count is that of the rounds that added something
  counts_rounds : (T : Saturated) → case_refusal x.case ≡ 0 → saturated (judge_lent x) x.rounds ≡ some T → CountsRounds x (rounds_added T)
  unfolding judge_lent
  counts_rounds T sound o =
      let (A, s) = case_saturates x.case sound in
      let (m, each, closed) = rounds_end (rules_of x.case) (own_of x.case) s.rounds (subst (Closed (rules_of x.case)) s.table_is s.least_closed.closed) in
      record {
        rounds = m;
        all_that_add = record { each_adds = each; then_nothing = closed_is_nothing x.case m closed };
        count_is = rounds_min (rules_of x.case) (own_of x.case) (is_saturated (judge_lent x) x.rounds o) m closed each;
      }

  pub demand1_judge : JudgeStates x (judge_service x)
  unfolding judge_left judge_lent
  demand1_judge = go (judge_service x) (judge_cases x)
    where
      go : (d : JudgeDone) → JudgeCase x d → JudgeStates x d
      go d (JudgeCase.case_refused bad) = judge_refused _ bad (files_case x (λ y. y.case) judge_files answer_lines bad)
      go d (start_refused s bad) = judge_refused _ bad (files_start x (λ y. y.case) judge_files answer_lines s bad)
      go d (answers_short s f h) = judge_refused 8 (eqb-false 8 0 refl) (past_files x (λ y. y.case) judge_files answer_lines 8 s f (applies_here (refusal 8 AnswersShort) _ x h))
      go d (JudgeCase.size_exceeded s f h o) =
          judge_refused 9 (eqb-false 9 0 refl) (past_files x (λ y. y.case) judge_files answer_lines 9 s f (enough_judge 9 h (size_applies judge_lent (λ y. y.rounds) x o)))
      go d (judged T s f h o) =
          let starts = length-map (starts_of x.start) (mark x.case T x.start) in
          record {
            number = past_files x (λ y. y.case) judge_files answer_lines 0 s f (enough_judge 0 h (size_passes judge_lent (λ y. y.rounds) x o));
            moves_zero = refl;
            entries_zero = refl;
            answers_length = length_padded x.answers _ (rw starts h);
            done = λ _. record {
              marks = map (mark x.case T x.start) (starts_of x.start);
              one_a_start = starts;
              each_mark = λ n l. rw (mark_at x.case T x.start n l) (table_marks x T s o n);
              answers_are = refl;
            };
            counted = λ _. counts_rounds T s o;
            refused = λ z. absurd (z refl);
          }

-- ---- guide

module _ (x : GuideInput) where
  abbrev number_lines : List (Refusal GuideInput)
  number_lines = refusal 7 (λ y. StartMissing y.start y.number) ∷ refusal 9 (λ y. ExceedsIn (guide_lent y) y.rounds) ∷ []

  there_guide : (n : ℕ) → x.number < length (starts_of x.start) → Returned (refusal 9 (λ y. ExceedsIn (guide_lent y) y.rounds) ∷ []) x n → Returned number_lines x n
  there_guide n h r = applies_not (refusal 7 (λ y. StartMissing y.start y.number)) _ x n (λ l. lt_irrefl _ (lt_of_lt_of_le h l)) r

  -- where guide does not refuse
  started_returned : (T : Saturated) → Started x T → Returned guide_refusals x 0
  unfolding guide_lent
  started_returned T s = past_files x (λ y. y.case) guide_files number_lines 0 s.sound_case s.sound_start (there_guide 0 s.start_there (size_passes guide_lent (λ y. y.rounds) x s.table_is))

  left_states : (o : Report) → Answered x o.reply (padded x.trace o.trace) → length o.trace ≤ x.trace → GuideStates x (guide_left x o)
  unfolding guide_left
  left_states o a l =
      record { answered = a; moves_zero = refl; entries_zero = refl; cells_zero = refl; trace_length = length_padded x.trace o.trace l }

  guide_refused : (n : ℕ) → (n ≡ 0 → ⊥) → Returned guide_refusals x n → GuideStates x (guide_left x (refused n))
  unfolding refused
  guide_refused n bad r = left_states (refused n) (r, bad, padded_none x.trace) (omega arith)

  guide_none : (T : Saturated) → Started x T → accepted T.table x.start (start_named x) ≡ false → more_to_add x.case T ≡ false
      → GuideStates x (guide_left x no_run)
  unfolding no_run guide_lent
  guide_none T s a m =
      left_states no_run
      (started_returned T s, sym (started_accepts x T s) ∙ a, table_nothing (guide_lent x) x.rounds s.table_is m, started_none x T s a m, padded_none x.trace)
      (omega arith)

  guide_open : (T : Saturated) → Started x T → accepted T.table x.start (start_named x) ≡ false → more_to_add x.case T ≡ true
      → GuideStates x (guide_left x open_start)
  unfolding open_start guide_lent
  guide_open T s a m =
      left_states open_start
      (started_returned T s, sym (started_accepts x T s) ∙ a, table_adds (guide_lent x) x.rounds s.table_is m, padded_none x.trace)
      (omega arith)

  -- an accepted start
  guide_walks : (T : Saturated) → Started x T → accepted T.table x.start (start_named x) ≡ true → {o : Report} → guide_walk x T ≡ o
      → GuideStates x (guide_left x o)
  unfolding walked_by
  guide_walks T s a {o} e =
      let (h, k, l) = walk_report x T s a in
      let ns : List ℕ = full_trace x.case x.start x.rounds x.number (counts_of h).steps in
      subst (λ (z : Report). GuideStates x (guide_left x z)) (sym k ∙ e)
      (left_states (walked_by h ns) (started_returned T s, sym (started_accepts x T s) ∙ a, started_runs x T s a, refl)
      (le_trans (full_short x.case x.start x.rounds x.number (counts_of h).steps) l))

  pub demand1_guide : GuideStates x (guide_service x)
  unfolding guide_lent
  demand1_guide = go (guide_service x) (guide_cases x)
    where
      go : (d : GuideDone) → GuideCase x d → GuideStates x d
      go d (GuideCase.case_refused bad) = guide_refused _ bad (files_case x (λ y. y.case) guide_files number_lines bad)
      go d (GuideCase.start_refused s bad) = guide_refused _ bad (files_start x (λ y. y.case) guide_files number_lines s bad)
      go d (start_missing s f h) = guide_refused 7 (eqb-false 7 0 refl) (past_files x (λ y. y.case) guide_files number_lines 7 s f (applies_here (refusal 7 (λ y. StartMissing y.start y.number)) _ x h))
      go d (GuideCase.size_exceeded s f h o) =
          guide_refused 9 (eqb-false 9 0 refl) (past_files x (λ y. y.case) guide_files number_lines 9 s f (there_guide 9 h (size_applies guide_lent (λ y. y.rounds) x o)))
      go d (no_run_holds T s a m) = guide_none T s a m
      go d (is_open T s a m) = guide_open T s a m
      go d (cells_short T s a l) = guide_walks T s a (walk_short x T l)
      go d (walked T s a l) = guide_walks T s a (walk_goes x T l)

-- ---- replay

module _ (x : ReplayInput) where
  abbrev short_line : Refusal ReplayInput
  short_line = refusal 11 CellsMissing

  abbrev trace_lines : List (Refusal ReplayInput)
  trace_lines = refusal 7 (λ y. StartMissing y.start y.number) ∷ refusal 10 TraceOdd ∷ short_line ∷ []

  there_replay : (n : ℕ) → x.number < length (starts_of x.start) → Returned (refusal 10 TraceOdd ∷ short_line ∷ []) x n → Returned trace_lines x n
  there_replay n h r = applies_not (refusal 7 (λ y. StartMissing y.start y.number)) _ x n (λ l. lt_irrefl _ (lt_of_lt_of_le h l)) r

  even_replay : (n : ℕ) → (TraceOdd x → ⊥) → Returned (short_line ∷ []) x n → Returned (refusal 10 TraceOdd ∷ short_line ∷ []) x n
  even_replay n h r = applies_not (refusal 10 TraceOdd) _ x n h r

  -- the line of 11, where none before it applies
  past_early : (n : ℕ) → Replays x → Returned (short_line ∷ []) x n → Returned replay_refusals x n
  past_early n p r = past_files x (λ y. y.case) replay_files trace_lines n p.sound_case p.sound_start (there_replay n p.start_there (even_replay n p.even r))

  replay_fits : (CellsMissing x → ⊥) → Returned (short_line ∷ []) x 0
  replay_fits h = applies_not short_line [] x 0 h (none_applies x)

  pub ended_answered : Replays x → (r : Replayed) → Ends x r → ReplayAnswered x r
  ended_answered p r (accepts f) = (past_early 0 p (replay_fits (fault_fits x f)), f)
  ended_answered p r (fails_at s) = (past_early 0 p (replay_fits (fails_fits x s)), s)
  ended_answered p r (is_short s) = (past_early 11 p (applies_here short_line [] x (inr s)), eqb-false 11 0 refl)

  pub demand1_replay : ReplayStates x (replay_service x)
  demand1_replay = go (replay_service x) (replay_cases x)
    where
      refuses : (n : ℕ) → (n ≡ 0 → ⊥) → Returned replay_refusals x n → ReplayStates x (replies x (Replayed.Refused n))
      refuses n bad r = record { answered = (r, bad); cells_zero = refl }

      go : (d : ReplayDone) → ReplayCase x d → ReplayStates x d
      go d (ReplayCase.case_refused bad) = refuses _ bad (files_case x (λ y. y.case) replay_files trace_lines bad)
      go d (ReplayCase.start_refused s bad) = refuses _ bad (files_start x (λ y. y.case) replay_files trace_lines s bad)
      go d (ReplayCase.start_missing s f h) =
          refuses 7 (eqb-false 7 0 refl) (past_files x (λ y. y.case) replay_files trace_lines 7 s f (applies_here (refusal 7 (λ y. StartMissing y.start y.number)) _ x h))
      go d (trace_odd s f t h) =
          refuses 10 (eqb-false 10 0 refl) (past_files x (λ y. y.case) replay_files trace_lines 10 s f (there_replay 10 t (applies_here (refusal 10 TraceOdd) _ x h)))
      go d (start_short s f t e h) =
          refuses 11 (eqb-false 11 0 refl)
          (past_files x (λ y. y.case) replay_files trace_lines 11 s f (there_replay 11 t (even_replay 11 e (applies_here short_line [] x (inl h)))))
      go d (replays p) = record { answered = ended_answered p (replay_run x) (replay_ends x p.start_fits); cells_zero = refl }

-- ---- brackets

module _ (x : BracketsInput) where
  pub prints_states : (k : ℕ) → k ≡ length (root_text x) → Returned brackets_refusals x 0
      → BracketsStates x (record { reply = Brackets.Printed k; text = padded x.text (root_text x) })
  prints_states k e r = record { answered = (r, e, refl); text_length = length_padded x.text (root_text x) (text_fits x r) }

  pub refuses_states : (n : ℕ) → (n ≡ 0 → ⊥) → Returned brackets_refusals x n → BracketsStates x (record { reply = Brackets.Refused n; text = zeros x.text })
  refuses_states n bad r = record { answered = (r, bad, refl); text_length = length_zeros x.text }

  pub demand1_brackets : BracketsStates x (brackets_service x)
  unfolding brackets_service
  demand1_brackets =
      let r = brackets_returned x in
      by_test (eqb (brackets_refusal x) 0)
      (λ z. let e = eqb-true _ 0 z in subst (BracketsStates x) (sym (answer_printed x _ e)) (prints_states _ refl (subst (Returned brackets_refusals x) e r)))
      (λ z. let bad = eqb-false _ 0 z in subst (BracketsStates x) (sym (answer_refused x _ bad)) (refuses_states _ bad r))

pub demand1 : Demand1
demand1 = (demand1_saturate, demand1_judge, demand1_guide, demand1_replay, demand1_brackets)
