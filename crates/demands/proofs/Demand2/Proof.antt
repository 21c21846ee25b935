-- Demand 2, proved: words and runs by what demand 1 says of each answer, rounds by those that add no move, and 9 by the size of the table of the
-- rounds run.
-- Assumes nothing.
use Rattle.std.specs.Prelude.{ℕ, zero, suc, ◌+◌, ◌≤◌, ◌<◌, ◌≡◌, ◌↔◌, true, false, List, length, get_or, leb, ltb}
use Rattle.std.proofs.Math.Path.{refl}
use Rattle.std.proofs.Common.{ap, sym, ◌∙◌, subst, lt_irrefl, lt_of_lt_of_le, arith, leb-true, leb-false, ltb-true, ltb-false}
use Rattle.std.proofs.Math.Option.{Option, none, some, none-ne-some}
use Rattle.std.proofs.lemmas.Bool.{false≢true, eqb-false}
use Rattle.std.proofs.Math.ListN.{get_or-eq_default}
use Rattle.words.specs.Laws.Tests.{by_test}
use Rattle.automata.specs.Automaton.{Automaton}
use Rattle.automata.specs.Acceptance.{accepts2}
use Rattle.automata.specs.Saturation.{Saturated, within, all_rounds}
use Rattle.automata.specs.Facts.{Closed}
use Rattle.rounds.specs.Rounds.{after_extends}
use Rattle.rounds.specs.Limits.{within_part, all_closed}
use Rattle.rounds.specs.Won.Few.{after_still, after_accepts}
use Rattle.replies.specs.declared.Reply.{Reply}
use Rattle.replies.specs.declared.Reply.TheVariants.{Refused, NoRun, Walked, Open}
use Rattle.replies.specs.Numbers.{refusal_of, open_word}
use Rattle.walks.specs.Guide.{Report, walked_by, no_run}
use Rattle.files.specs.Case.{own_of, rules_of, case_refusal}
use Rattle.files.specs.Start.{starts_of, configuration_at, start_at, start_refusal}
use Rattle.services.specs.Memory.{lent}
use Rattle.services.specs.Memory.Laws.{get_or_padded}
use Rattle.services.specs.Saturate.{Lent, SaturateDone, saturated, saturate_refused, saturate_filled, saturate_service}
use Rattle.services.proofs.Saturate.Laws.{SaturateCase, case_refused, size_exceeded, filled, saturate_cases}
use Rattle.services.specs.Judge.{JudgeInput, JudgeDone, judge_lent, judge_left, judge_service, judge_files}
use Rattle.services.specs.Judge.Laws.{JudgeCase, start_refused, answers_short, judged}
use Rattle.services.proofs.Judge.Laws.{judge_cases}
use Rattle.services.specs.Guide.{GuideInput, GuideDone, accepted, guide_files, guide_lent, start_named, guide_walk, guide_left, refused, guide_service, open_start}
use Rattle.services.proofs.Guide.Laws.{GuideCase, Started, start_missing, no_run_holds, cells_short, walked, guide_cases, walk_goes, is_open}
use Rattle.demands.specs.Reach.{Runs, WonIn, Marks, round_table, accepted_in, AddsMove, AddsNothing, Yes}
use Rattle.demands.specs.Reach.Laws.{nothing_is_closed, closed_is_nothing, adds_not}
use Rattle.demands.specs.Size.{Exceeds, ExceedsIn}
use Rattle.demands.specs.Size.Laws.{none_exceeds, exceeds_none, none_exceeds_in, exceeds_in_none, in_exceeds}
use Rattle.demands.specs.Refusals.{Returned, refusal, StartMissing, case_refusals, start_refusals, judge_refusals, guide_refusals}
use Rattle.demands.specs.Refusals.Laws.{returned_one, unreturned, unlisted, returned_after}
use Rattle.demands.specs.Demand1.{Marked, JudgeStates, Answered}
use Rattle.demands.proofs.Demand1.Proof.{demand1_judge, demand1_guide}
use Rattle.demands.specs.Demand2.{judge_for, JudgeMarks, GuideRuns, Demand2, RoundsWithin, WordsWithin, Demand2Rounds, SaturateSize, JudgeSize, GuideSize, Demand2Size, with_rounds, RaisingKeeps, AllRounds}
use Rattle.demands.specs.Laws.Accepted.{table_marks, WordOf, no_word, word_of, answer_word_lem, is_saturated, table_after_lem, mark_few}
use Rattle.demands.proofs.Demand3.Answer.{walk_report}

-- ---- judge

-- what demand 1 says of an answer gives the words
states_marks : (x : JudgeInput) (d : JudgeDone) → JudgeStates x d → JudgeMarks x d
states_marks x d s r =
    let z : d.code ≡ 0 = returned_one judge_refusals x s.number r in
    let m = s.done z in
    record {
      judged = z;
      each_mark = λ n l.
          let e : get_or d.answers n 0 ≡ get_or m.marks n 0 =
          ap (λ (w : List ℕ). get_or w n 0) m.answers_are ∙ get_or_padded x.answers m.marks n in
          rw e (m.each_mark n l);
    }

pub judge_marks : (x : JudgeInput) → JudgeMarks x (judge_service x)
judge_marks x = states_marks x (judge_service x) (demand1_judge x)

-- ---- guide

-- where no number applies, the start is in the file
start_there : (x : GuideInput) → Returned guide_refusals x 0 → x.number < length (starts_of x.start)
unfolding unlisted
start_there x r =
    let after-case = returned_after (case_refusals (λ y. y.case)) _ x refl r in
    let after-start = returned_after (start_refusals guide_files) _ x refl after-case in
    let there = (unreturned (refusal 7 (λ y. StartMissing y.start y.number)) _ x (eqb-false 0 7 refl) after-start).0 in
    by_test (leb (length (starts_of x.start)) x.number) (λ t. absurd (there (leb-true _ _ t))) (λ t. leb-false _ _ t)

-- the answers are different
unfoldable kind : Reply → ℕ
kind (Refused n) = 0
kind NoRun = 1
kind Open = 2
kind (Walked h) = 3

-- what demand 1 says of an answer gives when it is no run and when it is open
module _ (x : GuideInput) where
  abbrev NotAccepted : Type 0
  NotAccepted = accepted_in x.case x.start x.number x.rounds ≡ false

  answered_no : (reply : Reply) (trace : List ℕ) → Answered x reply trace → Returned guide_refusals x 0 → (reply ≡ NoRun) ↔ (NotAccepted × AddsNothing x.case x.rounds)
  unfolding kind
  answered_no (Refused n) trace (r, bad, _) e = absurd (bad (returned_one guide_refusals x r e))
  answered_no NoRun trace (_, z, still, _, _) e = (λ _. (z, still), λ _. refl)
  answered_no Open trace (_, z, adds, _) e = (λ q. absurd (eqb-false 2 1 refl (ap kind q)), λ (_, still). absurd (adds_not x.case x.rounds adds still))
  answered_no (Walked h) trace (_, t, _, _) e = (λ q. absurd (eqb-false 3 1 refl (ap kind q)), λ (z, _). absurd (false≢true (sym z ∙ t)))

  answered_open : (reply : Reply) (trace : List ℕ) → Answered x reply trace → Returned guide_refusals x 0 → (reply ≡ Open) ↔ (NotAccepted × AddsMove x.case x.rounds)
  unfolding kind
  answered_open (Refused n) trace (r, bad, _) e = absurd (bad (returned_one guide_refusals x r e))
  answered_open NoRun trace (_, z, still, _, _) e = (λ q. absurd (eqb-false 1 2 refl (ap kind q)), λ (_, adds). absurd (adds_not x.case x.rounds adds still))
  answered_open Open trace (_, z, adds, _) e = (λ _. (z, adds), λ _. refl)
  answered_open (Walked h) trace (_, t, _, _) e = (λ q. absurd (eqb-false 3 2 refl (ap kind q)), λ (z, _). absurd (false≢true (sym z ∙ t)))

  answered_none : (reply : Reply) (trace : List ℕ) → Answered x reply trace → reply ≡ NoRun → Runs x.case x.start x.number → ⊥
  unfolding kind
  answered_none (Refused n) trace h q = absurd (eqb-false 0 1 refl (ap kind q))
  answered_none NoRun trace (_, _, _, h, _) q = h
  answered_none Open trace h q = absurd (eqb-false 2 1 refl (ap kind q))
  answered_none (Walked h) trace a q = absurd (eqb-false 3 1 refl (ap kind q))

  answered_exactly : (reply : Reply) (trace : List ℕ) → Answered x reply trace → Returned guide_refusals x 0 → AddsNothing x.case x.rounds
      → (Runs x.case x.start x.number → ⊥) → reply ≡ NoRun
  answered_exactly (Refused n) trace (r, bad, _) e still h = absurd (bad (returned_one guide_refusals x r e))
  answered_exactly NoRun trace a e still h = refl
  answered_exactly Open trace (_, _, adds, _) e still h = absurd (adds_not x.case x.rounds adds still)
  answered_exactly (Walked c) trace (_, _, runs, _) e still h = absurd (h runs)

pub guide_runs : (x : GuideInput) → GuideRuns x (guide_service x).reply
unfolding judge_for
guide_runs x r =
    let a = (demand1_guide x).answered in
    let reply : Reply = (guide_service x).reply in
    let trace : List ℕ = (guide_service x).trace in
    let (f, g) = answered_no x reply trace a r in
    let (h, k) = answered_open x reply trace a r in
    record {
      no_left = (f, g);
      is_open = (h, k);
      no_run_holds = answered_none x reply trace a;
      exactly = λ still. (answered_none x reply trace a, answered_exactly x reply trace a r still);
      marked_no = λ answers c. let m = (word answers c).no_left in (λ z. m.1 (f z), λ z. g (m.0 z));
      marked_open = λ answers c. let m = (word answers c).is_open in (λ z. m.1 (h z), λ z. k (m.0 z));
    }
  where
    -- judge's word for the start
    word : (answers : ℕ) → (judge_service (judge_for x answers)).code ≡ 0
        → Marks x.case x.start x.rounds x.number (get_or (judge_service (judge_for x answers)).answers x.number 0)
    word answers c =
        let s = demand1_judge (judge_for x answers) in
        (judge_marks (judge_for x answers) (subst (Returned judge_refusals (judge_for x answers)) c s.number)).each_mark x.number (start_there x r)

pub demand2 : Demand2
demand2 = (judge_marks, guide_runs)

-- ---- rounds

pub rounds_within : RoundsWithin
rounds_within case start n r w m e =
    by_test (ltb m r)
    (λ l.
    let h : m < r = ltb-true m r l in
    let same = ap (λ (A : Automaton). accepts2 A (configuration_at start n).stack (configuration_at start n).control) (after_still (rules_of case) (own_of case) m r (omega arith) e) in
    absurd (false≢true (sym (w.least m h) ∙ sym same ∙ w.accepts)))
    (λ l. ltb-false m r l)

pub words_within : (x : JudgeInput) → WordsWithin x (judge_service x).answers
words_within x =
    record {
      by_rounds = λ n m h e. go n m e (get_or (judge_service x).answers n 0) (answer_word_lem x n) h;
      by_asked = λ n h. asked n (get_or (judge_service x).answers n 0) (answer_word_lem x n) h;
      by_moves = λ n h. few n (get_or (judge_service x).answers n 0) (answer_word_lem x n) h;
    }
  where
    -- a word that is not open is 0 or that of a round
    marked : (n m w : ℕ) → ((r : ℕ) → WonIn x.case x.start n r → r ≤ m) → Marks x.case x.start x.rounds n w → (w ≡ open_word → ⊥) → w ≤ suc m
    marked n m zero h k o = omega arith
    marked n m (suc r) h k o =
        let w : WonIn x.case x.start n r = (k.round (λ e. absurd (omega arith), o) r).0 refl in
        let l : r ≤ m = h r w in
        omega arith

    go : (n m : ℕ) → AddsNothing x.case m → (w : ℕ) → WordOf x n w → (w ≡ open_word → ⊥) → w ≤ suc m
    go n m e w no_word o = omega arith
    go n m e w (word_of T s f t) o = marked n m _ (λ r v. rounds_within x.case x.start n r v m e) (table_marks x T s t n) o

    asked : (n w : ℕ) → WordOf x n w → (w ≡ open_word → ⊥) → w ≤ suc x.rounds
    asked n w no_word o = omega arith
    asked n w (word_of T s f t) o = marked_asked n _ (table_marks x T s t n) o
      where
        marked_asked : (n w : ℕ) → Marks x.case x.start x.rounds n w → (w ≡ open_word → ⊥) → w ≤ suc x.rounds
        marked_asked n zero k o = omega arith
        marked_asked n (suc r) k o =
            let y : Yes (suc r) = (λ e. absurd (omega arith), o) in
            let w : WonIn x.case x.start n r = (k.round y r).0 refl in
            by_test (ltb x.rounds r)
            (λ l. absurd (false≢true (sym (w.least x.rounds (ltb-true _ _ l)) ∙ k.yes.0 y)))
            (λ l. let h : r ≤ x.rounds = ltb-false _ _ l in omega arith)

    few : (n w : ℕ) → WordOf x n w → (w ≡ open_word → ⊥) → w ≤ 1025
    few n w no_word o = omega arith
    few n w (word_of T s f t) o = mark_few x T t (start_at x.start n) o

-- ---- raising the number of rounds

-- a start that is marked yes or no has the same word with more rounds
raised : (case start : List ℕ) (few more n w v : ℕ) → few ≤ more → Marks case start few n w → Marks case start more n v → (w ≡ open_word → ⊥) → v ≡ w
raised case start few more n zero v l m k o =
    let (z, still) = m.no_left.0 refl in
    let same : round_table case more ≡ round_table case few = after_still (rules_of case) (own_of case) few more l still in
    k.no_left.1 (
      ap (λ (A : Automaton). accepts2 A (configuration_at start n).stack (configuration_at start n).control) same ∙ z,
      closed_is_nothing case more (subst (Closed (rules_of case)) (sym same) (nothing_is_closed case few still)),
    )
raised case start few more n (suc r) v l m k o =
    let y : Yes (suc r) = (λ e. absurd (omega arith), o) in
    let t : accepted_in case start n more ≡ true =
    after_accepts (rules_of case) (own_of case) few more l (configuration_at start n).stack (configuration_at start n).control (m.yes.0 y) in
    (k.round (k.yes.1 t) r).1 ((m.round y r).0 refl)

-- where judge with more rounds does not refuse, the table of fewer fits
raised_fits : (x : JudgeInput) (more : ℕ) → x.rounds ≤ more → (judge_service (with_rounds x more)).code ≡ 0 → (judge_service x).code ≡ 0
unfolding judge_left judge_files judge_lent with_rounds
raised_fits x more l c = go (judge_service (with_rounds x more)) (judge_cases (with_rounds x more)) c
  where
    fewer : (T : Saturated) → case_refusal x.case ≡ 0 → start_refusal (judge_files x) ≡ 0 → length (starts_of x.start) ≤ x.answers
        → saturated (judge_lent (with_rounds x more)) more ≡ some T → (d : JudgeDone) → JudgeCase x d → d.code ≡ 0
    fewer T s f h o d (JudgeCase.case_refused bad) = absurd (bad s)
    fewer T s f h o d (start_refused _ bad) = absurd (bad f)
    fewer T s f h o d (answers_short _ _ k) = absurd (lt_irrefl _ (lt_of_lt_of_le k h))
    fewer T s f h o d (JudgeCase.size_exceeded _ _ _ q) =
        let w = (is_saturated (judge_lent (with_rounds x more)) more o).limits_kept in
        let fits = ap (within (lent x.moves x.entries)) (sym (table_after_lem (judge_lent (with_rounds x more)) more o)) ∙ w in
        absurd (false≢true (sym (none_exceeds_in (judge_lent x) x.rounds q)
        ∙ within_part (lent x.moves x.entries) (after_extends (rules_of x.case) (own_of x.case) x.rounds more l) fits))
    fewer T s f h o d (judged U _ _ _ _) = refl

    go : (e : JudgeDone) → JudgeCase (with_rounds x more) e → e.code ≡ 0 → (judge_service x).code ≡ 0
    go e (JudgeCase.case_refused bad) z = absurd (bad z)
    go e (start_refused s bad) z = absurd (bad z)
    go e (answers_short s f h) z = absurd (eqb-false 8 0 refl z)
    go e (JudgeCase.size_exceeded s f h o) z = absurd (eqb-false 9 0 refl z)
    go e (judged T s f h o) z = fewer T s f h o (judge_service x) (judge_cases x)

-- where no number applies, judge answers 0, and the other way round
unrefused_judged : (x : JudgeInput) → Returned judge_refusals x 0 → (judge_service x).code ≡ 0
unrefused_judged x r = returned_one judge_refusals x (demand1_judge x).number r

judged_unrefused : (x : JudgeInput) → (judge_service x).code ≡ 0 → Returned judge_refusals x 0
judged_unrefused x z = subst (Returned judge_refusals x) z (demand1_judge x).number

pub raising_keeps : RaisingKeeps
unfolding with_rounds
raising_keeps x more d e s t l r =
    let few = states_marks x d s (judged_unrefused x (raised_fits x more l (unrefused_judged (with_rounds x more) r))) in
    let many = states_marks (with_rounds x more) e t r in
    record {
      judged = few.judged;
      judged_raised = many.judged;
      each_stays = λ n h o. raised x.case x.start x.rounds more n _ _ l (few.each_mark n h) (many.each_mark n h) o;
    }

-- where judge does not refuse, nothing is left to add after all rounds
all_run : (x : JudgeInput) → (judge_service x).code ≡ 0 → 1024 < x.rounds + length (own_of x.case).moves → AddsNothing x.case x.rounds
unfolding judge_left judge_lent
all_run x c h = go (judge_service x) (judge_cases x) c
  where
    go : (d : JudgeDone) → JudgeCase x d → d.code ≡ 0 → AddsNothing x.case x.rounds
    go d (JudgeCase.case_refused bad) z = absurd (bad z)
    go d (start_refused s bad) z = absurd (bad z)
    go d (answers_short s f k) z = absurd (eqb-false 8 0 refl z)
    go d (JudgeCase.size_exceeded s f k o) z = absurd (eqb-false 9 0 refl z)
    go d (judged T s f k o) z =
        let closed = all_closed (rules_of x.case) (lent x.moves x.entries) (own_of x.case) (is_saturated (judge_lent x) x.rounds o) h in
        closed_is_nothing x.case x.rounds (subst (Closed (rules_of x.case)) (table_after_lem (judge_lent x) x.rounds o) closed)

pub all_rounds_lem : AllRounds
all_rounds_lem x d s r h =
    let z : d.code ≡ 0 = returned_one judge_refusals x s.number r in
    let still : AddsNothing x.case x.rounds = all_run x (unrefused_judged x r) h in
    record { judged = z; nothing_left = still; each_decided = λ n o. decided still (s.done z) n o }
  where
    -- a start's word is not open, and behind those of the starts every word is 0
    decided : AddsNothing x.case x.rounds → Marked x d.answers → (n : ℕ) → get_or d.answers n 0 ≡ open_word → ⊥
    decided still m n o =
        let w : get_or m.marks n 0 ≡ open_word =
        sym (ap (λ (l : List ℕ). get_or l n 0) m.answers_are ∙ get_or_padded x.answers m.marks n) ∙ o in
        by_test (ltb n (length (starts_of x.start)))
        (λ t. adds_not x.case x.rounds ((m.each_mark n (ltb-true _ _ t)).is_open.0 w).1 still)
        (λ t.
        let l : length (starts_of x.start) ≤ n = ltb-false _ _ t in
        eqb-false 0 open_word refl (sym (get_or-eq_default m.marks 0 (subst (λ (k : ℕ). k ≤ n) (sym m.one_a_start) l)) ∙ w))

pub demand2_rounds : Demand2Rounds
demand2_rounds = (rounds_within, words_within, raising_keeps, all_rounds_lem)

-- ---- refusal for size

-- a table that is there is not none
some_none : {T : Saturated} {o : Option Saturated} → o ≡ some T → o ≡ none → ⊥
some_none {T} e f = none-ne-some T (sym f ∙ e)

pub saturate_size : (x : Lent) → SaturateSize x (saturate_service x).reply.code
unfolding saturate_refused saturate_filled
saturate_size x sound = (to (saturate_service x) (saturate_cases x), λ h. from (saturate_service x) (saturate_cases x) (exceeds_none x sound h))
  where
    to : (d : SaturateDone) → SaturateCase x d → d.reply.code ≡ 9 → Exceeds x
    to d (case_refused bad) z = absurd (bad sound)
    to d (size_exceeded s o) z = none_exceeds x sound o
    to d (filled T s o) z = absurd (eqb-false 0 9 refl z)

    from : (d : SaturateDone) → SaturateCase x d → saturated x all_rounds ≡ none → d.reply.code ≡ 9
    from d (case_refused bad) z = absurd (bad sound)
    from d (size_exceeded s o) z = refl
    from d (filled T s o) z = absurd (some_none o z)

pub judge_size : (x : JudgeInput) → JudgeSize x (judge_service x).code
unfolding judge_left judge_lent
judge_size x sound start enough =
    ((passes, λ h. from (judge_service x) (judge_cases x) (exceeds_in_none (judge_lent x) x.rounds h)), λ z. in_exceeds (judge_lent x) sound x.rounds (passes z))
  where
    to : (d : JudgeDone) → JudgeCase x d → d.code ≡ 9 → ExceedsIn (judge_lent x) x.rounds
    to d (JudgeCase.case_refused bad) z = absurd (bad sound)
    to d (start_refused s bad) z = absurd (bad start)
    to d (answers_short s f h) z = absurd (lt_irrefl _ (lt_of_lt_of_le h enough))
    to d (JudgeCase.size_exceeded s f h o) z = none_exceeds_in (judge_lent x) x.rounds o
    to d (judged T s f h o) z = absurd (eqb-false 0 9 refl z)

    passes : (judge_service x).code ≡ 9 → ExceedsIn (judge_lent x) x.rounds
    passes = to (judge_service x) (judge_cases x)

    from : (d : JudgeDone) → JudgeCase x d → saturated (judge_lent x) x.rounds ≡ none → d.code ≡ 9
    from d (JudgeCase.case_refused bad) z = absurd (bad sound)
    from d (start_refused s bad) z = absurd (bad start)
    from d (answers_short s f h) z = absurd (lt_irrefl _ (lt_of_lt_of_le h enough))
    from d (JudgeCase.size_exceeded s f h o) z = refl
    from d (judged T s f h o) z = absurd (some_none o z)

-- a start that is answered is not refused
pub unrefused : (x : GuideInput) (T : Saturated) → Started x T → accepted T.table x.start (start_named x) ≡ true → refusal_of (guide_walk x T).reply ≡ 0
unfolding walked_by refusal_of
unrefused x T s a = let (h, k, _) = walk_report x T s a in ap (λ (o : Report). refusal_of o.reply) k

pub guide_size : (x : GuideInput) → GuideSize x (refusal_of (guide_service x).reply)
unfolding guide_left guide_lent refused refusal_of no_run open_start walked_by
guide_size x sound start there =
    ((passes, λ h. from (guide_service x) (guide_cases x) (exceeds_in_none (guide_lent x) x.rounds h)), λ z. in_exceeds (guide_lent x) sound x.rounds (passes z))
  where
    walks : (T : Saturated) → Started x T → accepted T.table x.start (start_named x) ≡ true → {o : Report} → guide_walk x T ≡ o → refusal_of o.reply ≡ 9
        → ExceedsIn (guide_lent x) x.rounds
    walks T s a k z = absurd (eqb-false 0 9 refl (sym (unrefused x T s a) ∙ ap (λ (o : Report). refusal_of o.reply) k ∙ z))

    to : (d : GuideDone) → GuideCase x d → refusal_of d.reply ≡ 9 → ExceedsIn (guide_lent x) x.rounds
    to d (GuideCase.case_refused bad) z = absurd (bad sound)
    to d (GuideCase.start_refused s bad) z = absurd (bad start)
    to d (start_missing s f h) z = absurd (lt_irrefl _ (lt_of_lt_of_le there h))
    to d (GuideCase.size_exceeded s f h o) z = none_exceeds_in (guide_lent x) x.rounds o
    to d (no_run_holds T s a m) z = absurd (eqb-false 0 9 refl z)
    to d (is_open T s a m) z = absurd (eqb-false 0 9 refl z)
    to d (cells_short T s a l) z = absurd (eqb-false 0 9 refl z)
    to d (walked T s a l) z = walks T s a (walk_goes x T l) z

    passes : refusal_of (guide_service x).reply ≡ 9 → ExceedsIn (guide_lent x) x.rounds
    passes = to (guide_service x) (guide_cases x)

    from : (d : GuideDone) → GuideCase x d → saturated (guide_lent x) x.rounds ≡ none → refusal_of d.reply ≡ 9
    from d (GuideCase.case_refused bad) z = absurd (bad sound)
    from d (GuideCase.start_refused s bad) z = absurd (bad start)
    from d (start_missing s f h) z = absurd (lt_irrefl _ (lt_of_lt_of_le there h))
    from d (GuideCase.size_exceeded s f h o) z = refl
    from d (no_run_holds T s a m) z = absurd (some_none s.table_is z)
    from d (is_open T s a m) z = absurd (some_none s.table_is z)
    from d (cells_short T s a l) z = absurd (some_none s.table_is z)
    from d (walked T s a l) z = absurd (some_none s.table_is z)

pub demand2_size : Demand2Size
demand2_size = (saturate_size, judge_size, guide_size)
