-- What the table of the rounds run accepts: only starts with a run, and each of these where nothing is left to add, so that judge's words are
-- right, and their rounds small.
-- Assumes nothing.
use Rattle.std.specs.Prelude.{ℕ, suc, ◌≤◌, ◌<◌, ◌-◌, true, false, ◌≡◌, refl, List, [], map, length, get_or, ltb}
use Rattle.std.proofs.Math.Bool.{false≢true}
use Rattle.std.proofs.Math.Path.{ap}
use Rattle.std.proofs.Common.{sym, ◌∙◌, subst, arith, ltb-true, ltb-false}
use Rattle.std.proofs.Math.Option.{some}
use Rattle.std.proofs.Math.ListN.{get_or-eq_default}
use Rattle.std.proofs.lemmas.List.{length-map}
use Rattle.std.proofs.lemmas.Bool.{eqb-false}
use Rattle.words.specs.Laws.Tests.{by_test}
use Rattle.replies.specs.declared.Acceptance.{Acceptance}
use Rattle.replies.specs.declared.Acceptance.TheVariants.{Never, Since}
use Rattle.replies.specs.Numbers.{answer_word, open_word, mark_word, word_round}
use Rattle.replies.specs.Numbers.Laws.{word_round_lem}
use Rattle.automata.specs.Automaton.{Automaton}
use Rattle.automata.specs.Acceptance.{accepts2}
use Rattle.automata.specs.Saturation.{Saturated, rounds_added, adds_move}
use Rattle.automata.specs.Facts.{Closed}
use Rattle.automata.specs.Won.{won2}
use Rattle.automata.specs.Won.Laws.{Right, least_right}
use Rattle.rounds.specs.Limits.{IsSaturated, saturate_some, saturated_after, rounds_few}
use Rattle.rounds.specs.Sizes.{rounds_are}
use Rattle.rounds.specs.Won.Few.{word_few, after_accepts}
use Rattle.walks.specs.Cell.Values.{get_or_map_below}
use Rattle.files.proofs.Case.Laws.{case_rules, case_table, case_own}
use Rattle.files.specs.Case.{own_of, rules_of, case_refusal}
use Rattle.files.specs.Start.{Files, Start, start_refusal, starts_of, configuration_of, start_at, configuration_at}
use Rattle.services.specs.Memory.{lent, padded}
use Rattle.services.specs.Memory.Laws.{get_or_padded}
use Rattle.services.specs.Saturate.{Lent, saturated}
use Rattle.services.specs.Judge.{JudgeInput, JudgeDone, judge_files, judge_lent, won, mark, judge_left, judge_service, more_to_add}
use Rattle.services.specs.Judge.Laws.{JudgeCase, case_refused, start_refused, answers_short, size_exceeded, judged}
use Rattle.services.proofs.Judge.Laws.{judge_cases}
use Rattle.services.specs.Guide.{GuideInput, accepted, guide_lent, start_named}
use Rattle.services.proofs.Guide.Laws.{Started}
use Rattle.services.specs.Listing.{listing_judge, round_won}
use Rattle.demands.specs.Reach.{Runs, round_table, WonIn, Marks, accepted_in, AddsMove, AddsNothing}
use Rattle.demands.specs.Reach.Laws.{reaches_published, accepted_reaches, reaches_accepted, nothing_is_closed, adds_not, tested_adds, tested_nothing}

-- ---- the table of the rounds run

module _ (x : Lent) (rounds : ℕ) {T : Saturated} (e : saturated x rounds ≡ some T) where
  pub is_saturated : IsSaturated (rules_of x.case) (lent x.moves x.entries) (own_of x.case) rounds T
  unfolding saturated
  is_saturated = saturate_some (rules_of x.case) (lent x.moves x.entries) (own_of x.case) rounds e

  -- it is the table after these rounds
  pub table_after_lem : T.table ≡ round_table x.case rounds
  table_after_lem = saturated_after (rules_of x.case) (lent x.moves x.entries) (own_of x.case) rounds is_saturated

  -- so it accepts what that accepts,
  pub table_accepts : (start : List ℕ) (n : ℕ) → accepted T.table start (start_at start n) ≡ accepted_in x.case start n rounds
  unfolding accepted configuration_at configuration_of
  table_accepts start n = ap (λ (A : Automaton). accepts2 A (configuration_at start n).stack (configuration_at start n).control) table_after_lem

  -- and has as much left to add.
  pub table_adds : more_to_add x.case T ≡ true → AddsMove x.case rounds
  unfolding more_to_add
  table_adds t = tested_adds x.case rounds (ap (adds_move (rules_of x.case)) (sym table_after_lem) ∙ t)

  pub table_nothing : more_to_add x.case T ≡ false → AddsNothing x.case rounds
  unfolding more_to_add
  table_nothing t = tested_nothing x.case rounds (ap (adds_move (rules_of x.case)) (sym table_after_lem) ∙ t)

  module _ (sound : case_refusal x.case ≡ 0) (start : List ℕ) (n : ℕ) where
    -- a start that it accepts has a run, for any number of rounds
    pub accepted_runs : accepted_in x.case start n rounds ≡ true → Runs x.case start n
    accepted_runs h =
        reaches_published.0
        (accepted_reaches (case_table x.case sound) (case_own x.case sound) (λ ρ j. case_rules x.case sound j) is_saturated.after (configuration_at start n)
        (ap (λ (A : Automaton). accepts2 A (configuration_at start n).stack (configuration_at start n).control) table_after_lem ∙ h))

    -- and it accepts each that has one, where nothing is left to add
    pub runs_accepted : AddsNothing x.case rounds → Runs x.case start n → accepted_in x.case start n rounds ≡ true
    runs_accepted still r =
        let closed : Closed (rules_of x.case) T.table = subst (Closed (rules_of x.case)) (sym table_after_lem) (nothing_is_closed x.case rounds still) in
        ap (λ (A : Automaton). accepts2 A (configuration_at start n).stack (configuration_at start n).control) (sym table_after_lem)
        ∙ reaches_accepted (case_table x.case sound) (case_own x.case sound) (λ ρ j. case_rules x.case sound j) is_saturated.after closed
        (configuration_at start n) (reaches_published.1 r)

-- ---- words

-- a start is won in one round
won_once : {case start : List ℕ} {n r k : ℕ} → WonIn case start n r → WonIn case start n k → r ≡ k
won_once {r = r} {k = k} v w =
    let a : r ≤ k = by_test (ltb k r) (λ l. absurd (false≢true (sym (v.least k (ltb-true k r l)) ∙ w.accepts))) (λ l. ltb-false k r l) in
    let b : k ≤ r = by_test (ltb r k) (λ l. absurd (false≢true (sym (w.least r (ltb-true r k l)) ∙ v.accepts))) (λ l. ltb-false r k l) in
    omega arith

module _ (case start : List ℕ) (rounds n : ℕ) (to_run : accepted_in case start n rounds ≡ true → Runs case start n)
    (to_accepted : AddsNothing case rounds → Runs case start n → accepted_in case start n rounds ≡ true) where
  -- the word of a start that is accepted, in the round in which it is won,
  yes_marks : (r : ℕ) → r ≤ 1024 → accepted_in case start n rounds ≡ true → WonIn case start n r → Marks case start rounds n (suc r)
  yes_marks r l t w =
      let not_zero : suc r ≡ 0 → ⊥ = λ e. absurd (omega arith) in
      let not-open : suc r ≡ open_word → ⊥ = λ e. absurd (omega arith) in
      record {
        yes = (λ _. t, λ _. (not_zero, not-open));
        no_left = (λ e. absurd (not_zero e), λ (z, _). absurd (false≢true (sym z ∙ t)));
        is_open = (λ e. absurd (not-open e), λ (z, _). absurd (false≢true (sym z ∙ t)));
        round = λ _ k. (λ e. let q : r ≡ k = omega arith in subst (WonIn case start n) q w, λ v. ap suc (won_once w v));
        run = λ _. to_run t;
        no_run_holds = λ e. absurd (not_zero e);
        exactly = λ _. (λ _. to_run t, λ _. (not_zero, not-open));
      }

  -- of one that is not while a round more would add a move,
  open_marks : accepted_in case start n rounds ≡ false → AddsMove case rounds → Marks case start rounds n open_word
  open_marks z adds =
      record {
        yes = (λ (_, h). absurd (h refl), λ t. absurd (false≢true (sym z ∙ t)));
        no_left = (λ e. absurd (eqb-false open_word 0 refl e), λ (_, still). absurd (adds_not case rounds adds still));
        is_open = (λ _. (z, adds), λ _. refl);
        round = λ (_, h). absurd (h refl);
        run = λ (_, h). absurd (h refl);
        no_run_holds = λ e. absurd (eqb-false open_word 0 refl e);
        exactly = λ still. absurd (adds_not case rounds adds still);
      }

  -- and of one that is not while nothing is left to add
  no_marks : accepted_in case start n rounds ≡ false → AddsNothing case rounds → Marks case start rounds n 0
  no_marks z still =
      let none : Runs case start n → ⊥ = λ r. false≢true (sym z ∙ to_accepted still r) in
      record {
        yes = (λ (h, _). absurd (h refl), λ t. absurd (false≢true (sym z ∙ t)));
        no_left = (λ _. (z, still), λ _. refl);
        is_open = (λ e. absurd (eqb-false 0 open_word refl e), λ (_, adds). absurd (adds_not case rounds adds still));
        round = λ (h, _). absurd (h refl);
        run = λ (h, _). absurd (h refl);
        no_run_holds = λ _. none;
        exactly = λ _. (λ (h, _). absurd (h refl), λ r. absurd (none r));
      }

-- the word that the table of the rounds run gives to a start of a sound case
module _ (x : JudgeInput) (T : Saturated) (sound : case_refusal x.case ≡ 0) (e : saturated (judge_lent x) x.rounds ≡ some T) where
  pub table_marks : (n : ℕ) → Marks x.case x.start x.rounds n (mark x.case T x.start (start_at x.start n))
  unfolding mark won won2 mark_word judge_lent configuration_at configuration_of
  table_marks n =
      go (won x.case T x.start (start_at x.start n)) (least_right (accepted_in x.case x.start n) 0 (suc (rounds_added T)))
    where
      s : IsSaturated (rules_of x.case) (lent x.moves x.entries) (own_of x.case) x.rounds T
      s = is_saturated (judge_lent x) x.rounds e

      few : rounds_added T ≤ 1024
      few = let l = rounds_few (rules_of x.case) (lent x.moves x.entries) (own_of x.case) s in omega arith

      asked : rounds_added T ≤ x.rounds
      asked = let r = rounds_are s.after in let l = s.at_most in omega arith

      -- the table after the rounds that added is that after the rounds asked for
      same : accepted_in x.case x.start n (rounds_added T) ≡ accepted_in x.case x.start n x.rounds
      same =
          ap (λ (A : Automaton). accepts2 A (configuration_at x.start n).stack (configuration_at x.start n).control)
          (ap (round_table x.case) (rounds_are s.after) ∙ sym s.after.table_is ∙ table_after_lem (judge_lent x) x.rounds e)

      to_run : accepted_in x.case x.start n x.rounds ≡ true → Runs x.case x.start n
      to_run = accepted_runs (judge_lent x) x.rounds e sound x.start n

      to_accepted : AddsNothing x.case x.rounds → Runs x.case x.start n → accepted_in x.case x.start n x.rounds ≡ true
      to_accepted = runs_accepted (judge_lent x) x.rounds e sound x.start n

      go : (a : Acceptance) → Right (accepted_in x.case x.start n) 0 (suc (rounds_added T)) a → Marks x.case x.start x.rounds n (mark_word (more_to_add x.case T) a)
      go (Since r) (l, h) =
          let f = few in
          let a = asked in
          yes_marks x.case x.start x.rounds n to_run to_accepted r (omega arith)
          (after_accepts (rules_of x.case) (own_of x.case) r x.rounds (omega arith) (configuration_at x.start n).stack (configuration_at x.start n).control h.passes)
          (record { accepts = h.passes; least = λ m b. h.least m (omega arith) b })
      go Never h =
          let z : accepted_in x.case x.start n x.rounds ≡ false = sym same ∙ h (rounds_added T) (omega arith) (omega arith) in
          by_test (more_to_add x.case T)
          (λ t. rw t (open_marks x.case x.start x.rounds n to_run to_accepted z (table_adds (judge_lent x) x.rounds e t)))
          (λ t. rw t (no_marks x.case x.start x.rounds n to_run to_accepted z (table_nothing (judge_lent x) x.rounds e t)))

-- the round of an accepted start is small
won_few : (x : JudgeInput) (T : Saturated) → saturated (judge_lent x) x.rounds ≡ some T → (s : Start) → answer_word (won x.case T x.start s) ≤ 1025
unfolding won judge_lent
won_few x T e s = word_few (rules_of x.case) (own_of x.case) (is_saturated (judge_lent x) x.rounds e) (configuration_of x.start s).stack s.control

-- and so is a word that is not open
pub mark_few : (x : JudgeInput) (T : Saturated) → saturated (judge_lent x) x.rounds ≡ some T → (s : Start) → (mark x.case T x.start s ≡ open_word → ⊥)
    → mark x.case T x.start s ≤ 1025
unfolding mark mark_word answer_word
mark_few x T e s h = go (won x.case T x.start s) (won_few x T e s) h
  where
    go : (a : Acceptance) → answer_word a ≤ 1025 → (mark_word (more_to_add x.case T) a ≡ open_word → ⊥) → mark_word (more_to_add x.case T) a ≤ 1025
    go Never l o = by_test (more_to_add x.case T) (λ t. absurd (o (rw t refl))) (λ t. rw t (omega arith))
    go (Since r) l o = l

-- The word tells the round.
pub mark_round : (x : JudgeInput) (T : Saturated) → saturated (judge_lent x) x.rounds ≡ some T → (s : Start)
    → word_round (mark x.case T x.start s) ≡ answer_word (won x.case T x.start s) - 1
unfolding mark
mark_round x T e s = let l = won_few x T e s in word_round_lem (more_to_add x.case T) (won x.case T x.start s) (omega arith)

-- the words of all starts
pub mark_at : (case : List ℕ) (T : Saturated) (file : List ℕ) (n : ℕ) → n < length (starts_of file)
    → get_or (map (mark case T file) (starts_of file)) n 0 ≡ mark case T file (start_at file n)
unfolding start_at
mark_at case T file n l = get_or_map_below (mark case T file) (starts_of file) n (record { control = 0; root = 0 }) 0 l

-- the answers of judge hold them
pub answer_at_lem : (x : JudgeInput) (T : Saturated) (n : ℕ) → n < length (starts_of x.start)
    → get_or (padded x.answers (map (mark x.case T x.start) (starts_of x.start))) n 0 ≡ mark x.case T x.start (start_at x.start n)
answer_at_lem x T n l = get_or_padded x.answers (map (mark x.case T x.start) (starts_of x.start)) n ∙ mark_at x.case T x.start n l

-- each of them is 0, or what the table gives to a start
pub data WordOf (x : JudgeInput) (n : ℕ) : ℕ → Type 0 where
  no_word : WordOf x n 0
  word_of : (T : Saturated) → case_refusal x.case ≡ 0 → start_refusal (judge_files x) ≡ 0 → saturated (judge_lent x) x.rounds ≡ some T
      → WordOf x n (mark x.case T x.start (start_at x.start n))

pub answer_word_lem : (x : JudgeInput) (n : ℕ) → WordOf x n (get_or (judge_service x).answers n 0)
unfolding judge_left
answer_word_lem x n = go (judge_service x) (judge_cases x)
  where
    zero_at : (ws : List ℕ) → length ws ≤ n → WordOf x n (get_or (padded x.answers ws) n 0)
    zero_at ws l = rw (get_or_padded x.answers ws n, get_or-eq_default ws 0 l) no_word

    go : (d : JudgeDone) → JudgeCase x d → WordOf x n (get_or d.answers n 0)
    go d (case_refused bad) = zero_at [] (omega arith)
    go d (start_refused s bad) = zero_at [] (omega arith)
    go d (answers_short s f h) = zero_at [] (omega arith)
    go d (size_exceeded s f h o) = zero_at [] (omega arith)
    go d (judged T s f h o) =
        by_test (ltb n (length (starts_of x.start)))
        (λ l. rw (answer_at_lem x T n (ltb-true _ _ l)) (word_of T s f o))
        (λ l. zero_at _ (rw (length-map (starts_of x.start) (mark x.case T x.start)) (ltb-false _ _ l)))

-- so the listing's rounds are at most 1,024
pub round_small : (f : Files) (rounds n : ℕ) → round_won f rounds n ≤ 1024
unfolding round_won word_round
round_small f rounds n = go (get_or (judge_service x).answers n 0) (answer_word_lem x n)
  where
    x : JudgeInput
    x = listing_judge f rounds

    go : (w : ℕ) → WordOf x n w → word_round w ≤ 1024
    go w no_word = omega arith
    go w (word_of T s f o) = let l = won_few x T o (start_at x.start n) in rw (mark_round x T o (start_at x.start n)) (omega arith)

-- ---- the start that guide names

module _ (x : GuideInput) (T : Saturated) (s : Started x T) where
  -- the table accepts it exactly if that after the rounds asked for does
  pub started_accepts : accepted T.table x.start (start_named x) ≡ accepted_in x.case x.start x.number x.rounds
  unfolding start_named start_at guide_lent
  started_accepts = table_accepts (guide_lent x) x.rounds s.table_is x.start x.number

  -- and has a run then
  pub started_runs : accepted T.table x.start (start_named x) ≡ true → Runs x.case x.start x.number
  unfolding guide_lent
  started_runs a = accepted_runs (guide_lent x) x.rounds s.table_is s.sound_case x.start x.number (sym started_accepts ∙ a)

  -- one that is not accepted while nothing is left to add has none
  pub started_none : accepted T.table x.start (start_named x) ≡ false → more_to_add x.case T ≡ false → Runs x.case x.start x.number → ⊥
  unfolding guide_lent
  started_none a m r =
      false≢true
      (sym a ∙ started_accepts
      ∙ runs_accepted (guide_lent x) x.rounds s.table_is s.sound_case x.start x.number (table_nothing (guide_lent x) x.rounds s.table_is m) r)
