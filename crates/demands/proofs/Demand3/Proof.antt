-- Demand 3, proved: judge and guide with the same rounds work on one table, and guide's answer on it is by the full run.
-- Assumes nothing.
use Rattle.std.specs.Prelude.{ℕ, ◌<◌, true, false, ◌≡◌, length, get_or}
use Rattle.std.proofs.Math.Bool.{false≢true}
use Rattle.std.proofs.Math.Path.{refl, ap, sym, subst, ap₂}
use Rattle.std.proofs.Common.{◌∙◌, lt_irrefl, lt_of_lt_of_le}
use Rattle.std.proofs.Math.Option.{some, some-injective, none-ne-some}
use mathlib.Core.List.{List}
use Rattle.std.proofs.lemmas.Bool.{eqb-false}
use Rattle.automata.specs.Saturation.{Saturated}
use Rattle.replies.specs.Numbers.{refusal_of}
use Rattle.walks.specs.Guide.{Report, walked_by, no_run}
use Rattle.files.specs.Case.{case_refusal}
use Rattle.files.specs.Start.{start_refusal, starts_of, start_at}
use Rattle.services.specs.Saturate.{saturated}
use Rattle.services.specs.Judge.{JudgeInput, JudgeDone, judge_lent, judge_files, judge_left, judge_service}
use Rattle.services.specs.Judge.Laws.{JudgeCase, case_refused, start_refused, answers_short, size_exceeded, judged}
use Rattle.services.proofs.Judge.Laws.{judge_cases}
use Rattle.services.specs.Guide.{GuideInput, GuideDone, accepted, guide_files, guide_lent, start_named, guide_walk, guide_left, refused, guide_service, open_start}
use Rattle.services.proofs.Guide.Laws.{GuideCase, Started, start_missing, no_run_holds, cells_short, walked, guide_cases, walk_goes, walk_short, is_open}
use Rattle.demands.specs.Reach.{accepted_in, Yes}
use Rattle.demands.specs.Refusals.{Returned, guide_refusals}
use Rattle.demands.specs.FullRun.{saturated_table}
use Rattle.demands.proofs.FullRun.Laws.{saturated_is, one_full_run}
use Rattle.demands.specs.Refusals.Laws.{returned_one}
use Rattle.demands.specs.Demand1.{Answered}
use Rattle.demands.proofs.Demand1.Proof.{demand1_guide}
use Rattle.demands.specs.Demand2.{judge_for}
use Rattle.demands.proofs.Demand2.Proof.{unrefused}
use Rattle.demands.specs.Laws.Accepted.{table_marks, answer_at_lem, WordOf, no_word, word_of, answer_word_lem, table_accepts, started_accepts}
use Rattle.demands.specs.Demand3.{MarkedYes, RunArrives, AnswersRun, guide_for, Demand3, Guides}
use Rattle.demands.proofs.Demand3.Answer.{run_arrives, answers_run}

-- ---- the table that judge and guide share

-- the table of a start marked yes, which accepts it
record Basis (x : JudgeInput) (n : ℕ) : Type 0 where
  table : Saturated
  sound_case : case_refusal x.case ≡ 0
  sound_start : start_refusal (judge_files x) ≡ 0
  start_there : n < length (starts_of x.start)
  table_is : saturated (judge_lent x) x.rounds ≡ some table
  start_accepted : accepted table.table x.start (start_at x.start n) ≡ true

basis : (x : JudgeInput) (n : ℕ) → MarkedYes x n → Basis x n
unfolding judge_lent
basis x n y = go (get_or (judge_service x).answers n 0) (answer_word_lem x n) y.yes
  where
    go : (w : ℕ) → WordOf x n w → Yes w → Basis x n
    go w no_word (h, _) = absurd (h refl)
    go w (word_of T s f o) h =
        record {
          table = T;
          sound_case = s;
          sound_start = f;
          start_there = y.start_there;
          table_is = o;
          start_accepted = table_accepts (judge_lent x) x.rounds o x.start n ∙ (table_marks x T s o n).yes.0 h;
        }

-- ---- guide's answer for that start

module _ (x : JudgeInput) (n : ℕ) (b : Basis x n) where
  -- guide with the tables that judge was lent
  beside : GuideInput
  beside = guide_for x.case x.start x.rounds n x.moves x.entries 0 0

  beside_started : Started beside b.table
  unfolding beside guide_for judge_files guide_files judge_lent guide_lent
  beside_started = record { sound_case = b.sound_case; sound_start = b.sound_start; start_there = b.start_there; table_is = b.table_is }

  beside_accepted : accepted b.table.table beside.start (start_named beside) ≡ true
  unfolding beside guide_for start_named start_at
  beside_accepted = b.start_accepted

  arrives : RunArrives x.case x.start x.rounds n
  unfolding beside guide_for
  arrives = run_arrives beside b.table beside_started beside_accepted

  -- any tables that guide with these rounds does not refuse hold the same table
  same_table : (y : GuideInput) {T : Saturated} → y.case ≡ x.case → y.rounds ≡ x.rounds → saturated (guide_lent y) y.rounds ≡ some T → b.table ≡ T
  unfolding judge_lent guide_lent
  same_table y {T} c k e =
      some-injective b.table T
      (sym (saturated_is (judge_lent x) x.rounds b.table_is) ∙ ap₂ saturated_table (sym c) (sym k) ∙ saturated_is (guide_lent y) y.rounds e)

  module _ (moves entries c t : ℕ) where
    other : GuideInput
    other = guide_for x.case x.start x.rounds n moves entries c t

    by_run : (T : Saturated) (s : Started other T) (a : accepted T.table other.start (start_named other) ≡ true) {d : GuideDone}
        → guide_left other (guide_walk other T) ≡ d → AnswersRun other arrives.trace d
    unfolding other guide_for
    by_run T s a {d} e =
        subst (AnswersRun other arrives.trace) e
        (subst (λ (ns : List ℕ). AnswersRun other ns (guide_left other (guide_walk other T)))
        (one_full_run (run_arrives other T s a).full arrives.full).0 (answers_run other T s a))

    not_rejected : (T : Saturated) → Started other T → accepted T.table other.start (start_named other) ≡ false → ⊥
    unfolding other guide_for start_named start_at
    not_rejected T s a =
        let e = ap (λ (z : Saturated). accepted z.table x.start (start_at x.start n)) (same_table other refl refl s.table_is) in
        false≢true (sym a ∙ sym e ∙ b.start_accepted)

    answers : refusal_of (guide_service other).reply ≡ 0 → AnswersRun other arrives.trace (guide_service other)
    unfolding guide_left refused refusal_of
    answers e = go (guide_service other) (guide_cases other) e
      where
        go : (d : GuideDone) → GuideCase other d → refusal_of d.reply ≡ 0 → AnswersRun other arrives.trace d
        go d (GuideCase.case_refused bad) z = absurd (bad z)
        go d (GuideCase.start_refused s bad) z = absurd (bad z)
        go d (start_missing s f h) z = absurd (eqb-false 7 0 refl z)
        go d (GuideCase.size_exceeded s f h o) z = absurd (eqb-false 9 0 refl z)
        go d (no_run_holds T s a m) z = absurd (not_rejected T s a)
        go d (is_open T s a m) z = absurd (not_rejected T s a)
        go d (cells_short T s a l) z = by_run T s a (ap (guide_left other) (walk_short other T l))
        go d (walked T s a l) z = by_run T s a (ap (guide_left other) (walk_goes other T l))

pub demand3 : Demand3
unfolding other
demand3 x n y = let b = basis x n y in record { arrives = arrives x n b; answers = λ moves entries c t. answers x n b moves entries c t }

-- ---- one answer

-- where judge marks the start yes, guide with the same tables does not refuse
yes_unrefused : (x : GuideInput) (answers : ℕ) → Basis (judge_for x answers) x.number → refusal_of (guide_service x).reply ≡ 0
unfolding judge_for judge_files guide_files judge_lent guide_lent guide_left refused refusal_of no_run open_start walked_by
yes_unrefused x answers b = go (guide_service x) (guide_cases x)
  where
    go : (d : GuideDone) → GuideCase x d → refusal_of d.reply ≡ 0
    go d (GuideCase.case_refused bad) = absurd (bad b.sound_case)
    go d (GuideCase.start_refused s bad) = absurd (bad b.sound_start)
    go d (start_missing s f h) = absurd (lt_irrefl _ (lt_of_lt_of_le b.start_there h))
    go d (GuideCase.size_exceeded s f h o) = absurd (none-ne-some b.table (sym o ∙ b.table_is))
    go d (no_run_holds T s a m) = refl
    go d (is_open T s a m) = refl
    go d (cells_short T s a l) = refl
    go d (walked T s a l) = ap (λ (o : Report). refusal_of o.reply) (sym (walk_goes x T l)) ∙ unrefused x T s a

pub guides : (x : GuideInput) → Guides x (guide_service x)
unfolding judge_for guide_for
guides x answers y =
    let r = demand3 (judge_for x answers) x.number y in
    (r.arrives, r.answers x.moves x.entries x.cells x.trace (yes_unrefused x answers (basis (judge_for x answers) x.number y)))

-- ---- a start that is accepted

-- judge with as many answers as starts marks an accepted start yes
accepted_marked : (x : GuideInput) (T : Saturated) → Started x T → accepted T.table x.start (start_named x) ≡ true
    → MarkedYes (judge_for x (length (starts_of x.start))) x.number
unfolding judge_for judge_files guide_files judge_lent guide_lent judge_left start_named start_at
accepted_marked x T s a =
    let (c, m) = go (judge_service y) (judge_cases y) in
    record { judged = c; start_there = s.start_there; yes = m }
  where
    y : JudgeInput
    y = judge_for x (length (starts_of x.start))

    go : (d : JudgeDone) → JudgeCase y d → (d.code ≡ 0) × Yes (get_or d.answers x.number 0)
    go d (case_refused bad) = absurd (bad s.sound_case)
    go d (start_refused _ bad) = absurd (bad s.sound_start)
    go d (answers_short _ _ h) = absurd (lt_irrefl _ h)
    go d (size_exceeded _ _ _ o) = absurd (none-ne-some T (sym o ∙ s.table_is))
    go d (judged U c _ _ o) =
        (refl, rw (answer_at_lem y U x.number s.start_there) ((table_marks y U c o x.number).yes.1 (sym (started_accepts x T s) ∙ a)))

-- Where no number applies to guide's input and the start is accepted, judge with as many answers as starts marks it yes.
pub accepts_marked : (x : GuideInput) → Returned guide_refusals x 0 → accepted_in x.case x.start x.number x.rounds ≡ true
    → MarkedYes (judge_for x (length (starts_of x.start))) x.number
unfolding guide_left refused no_run open_start
accepts_marked x r t = go (guide_service x) (guide_cases x) (demand1_guide x).answered
  where
    go : (d : GuideDone) → GuideCase x d → Answered x d.reply d.trace → MarkedYes (judge_for x (length (starts_of x.start))) x.number
    go d (GuideCase.case_refused bad) (n, _, _) = absurd (bad (returned_one guide_refusals x n r))
    go d (GuideCase.start_refused s bad) (n, _, _) = absurd (bad (returned_one guide_refusals x n r))
    go d (start_missing s f h) (n, bad, _) = absurd (bad (returned_one guide_refusals x n r))
    go d (GuideCase.size_exceeded s f h o) (n, bad, _) = absurd (bad (returned_one guide_refusals x n r))
    go d (no_run_holds T s a m) (_, z, _, _, _) = absurd (false≢true (sym z ∙ t))
    go d (is_open T s a m) (_, z, _, _) = absurd (false≢true (sym z ∙ t))
    go d (cells_short T s a l) _ = accepted_marked x T s a
    go d (walked T s a l) _ = accepted_marked x T s a
