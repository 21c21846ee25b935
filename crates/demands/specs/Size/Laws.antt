-- A sound case has a saturated table, only one; and no table within the limits is left by saturation exactly if it, or the table of the rounds
-- run, passes one.
-- Assumes nothing.
use Rattle.std.specs.Prelude.{ℕ, false, ◌≡◌, refl, List, leb}
use Rattle.std.proofs.lemmas.Bool.{false≢true}
use Rattle.std.proofs.Common.{sym, ◌∙◌, subst, le_of_lt as lt-le, arith, leb-true, leb-false}
use Rattle.std.proofs.Math.Option.{none, some}
use Rattle.words.specs.Laws.Tests.{by_test}
use Rattle.words.specs.Laws.Options.{by_option}
use Rattle.automata.specs.Automaton.{Automaton}
use Rattle.automata.specs.Facts.{Closed}
use Rattle.automata.specs.Saturation.{Saturated, table_after, within, all_rounds}
use Rattle.rounds.specs.Rounds.{after_closed}
use Rattle.rounds.specs.Limits
use Rattle.rounds.specs.Limits.{saturate_some, saturate_none, all_closed}
use Rattle.rounds.specs.Ends.{work_ends}
use Rattle.rounds.specs.LeastClosed.Laws.{closed_least, closed_exceeds, saturated_least, least_within}
use Rattle.files.specs.Case.{case_refusal, own_of, rules_of}
use Rattle.files.proofs.Case.Laws.{case_rules, case_table, case_own, case_moves_once, case_rules_bounded, case_bounded}
use Rattle.services.specs.Memory.{lent}
use Rattle.services.specs.Saturate.{Lent, saturated}
use Rattle.demands.specs.Size.{SaturatedTable, Exceeds, ExceedsIn}

-- ---- the saturated table of a case

-- there is only one
pub one_saturated : (case : List ℕ) {A C : Automaton} → SaturatedTable case A → SaturatedTable case C → A ≡ C
one_saturated case {A} {C} a c =
    let n : ℕ = a.rounds in
    let m : ℕ = c.rounds in
    let closed-n : Closed (rules_of case) (table_after (rules_of case) (own_of case) n) = subst (Closed (rules_of case)) a.table_is a.least_closed.closed in
    let closed-m : Closed (rules_of case) (table_after (rules_of case) (own_of case) m) = subst (Closed (rules_of case)) c.table_is c.least_closed.closed in
    by_test (leb n m)
    (λ t. a.table_is ∙ sym (after_closed (rules_of case) (own_of case) n m (leb-true n m t) closed-n) ∙ sym c.table_is)
    (λ t. a.table_is ∙ after_closed (rules_of case) (own_of case) m n (lt-le (leb-false n m t)) closed-m ∙ sym c.table_is)

module _ (case : List ℕ) (sound : case_refusal case ≡ 0) where
  -- "The work ends": a sound case has a saturated table
  pub case_saturates : (A : Automaton) × SaturatedTable case A
  case_saturates =
      let (n, c) = work_ends (rules_of case) (λ ρ j. case_rules case sound j) (case_rules_bounded case sound) (case_table case sound) (case_bounded case sound)
      (case_moves_once case sound) in (
        table_after (rules_of case) (own_of case) n,
        record {
          least_closed = closed_least (rules_of case) (λ ρ j. case_rules case sound j) (case_table case sound) (case_moves_once case sound) (case_own case sound) n c;
          rounds = n;
          table_is = refl;
        },
      )

-- ---- within the limits

module _ (x : Lent) where
  -- there is no table of n rounds exactly if the table after n rounds passes a limit
  pub none_exceeds_in : (n : ℕ) → saturated x n ≡ none → ExceedsIn x n
  unfolding saturated
  none_exceeds_in n e = saturate_none (rules_of x.case) (lent x.moves x.entries) (own_of x.case) n e

  pub exceeds_in_none : (n : ℕ) → ExceedsIn x n → saturated x n ≡ none
  unfolding saturated
  exceeds_in_none n h = Limits.exceeds_none (rules_of x.case) (lent x.moves x.entries) (own_of x.case) n h

  module _ (sound : case_refusal x.case ≡ 0) where
    -- what all rounds leave is the saturated table
    pub saturated_table_lem : {T : Saturated} → saturated x all_rounds ≡ some T → SaturatedTable x.case T.table
    unfolding saturated
    saturated_table_lem {T} e =
        let s = saturate_some (rules_of x.case) (lent x.moves x.entries) (own_of x.case) all_rounds e in
        let c = all_closed (rules_of x.case) (lent x.moves x.entries) (own_of x.case) s (omega arith) in
        record {
          least_closed = saturated_least (rules_of x.case) (λ ρ j. case_rules x.case sound j) (case_table x.case sound) (case_moves_once x.case sound) (case_own x.case sound) s c;
          rounds = s.after.rounds;
          table_is = s.after.table_is;
        }

    -- where the table of some number of rounds passes a limit, the saturated table does
    pub in_exceeds : (n : ℕ) → ExceedsIn x n → Exceeds x
    in_exceeds n h =
        let (A, s) = case_saturates x.case sound in
        record {
          table = A;
          saturated = s;
          passes = subst (λ (C : Automaton). within (lent x.moves x.entries) C ≡ false) (sym s.table_is)
              (closed_exceeds (rules_of x.case) (lent x.moves x.entries) (own_of x.case) s.rounds
              (subst (Closed (rules_of x.case)) s.table_is s.least_closed.closed) n h);
        }

    pub none_exceeds : saturated x all_rounds ≡ none → Exceeds x
    none_exceeds e = in_exceeds all_rounds (none_exceeds_in all_rounds e)

    pub exceeds_none : Exceeds x → saturated x all_rounds ≡ none
    unfolding saturated
    exceeds_none h =
        by_option (saturated x all_rounds) (λ o. o) (λ T o.
        let s = saturate_some (rules_of x.case) (lent x.moves x.entries) (own_of x.case) all_rounds o in
        let k = least_within (lent x.moves x.entries) h.saturated.least_closed (saturated_table_lem o).least_closed in
        absurd (false≢true (sym h.passes ∙ k ∙ s.limits_kept)))
