-- From bytes: every byte string that is not refused decodes to a case that meets the hypotheses of the theorems, and so does every table
-- that saturation makes of it.
-- Assumes nothing.
use Rattle.std.specs.Prelude.{ℕ, ◌≡◌}
use Rattle.std.proofs.Math.Option.{some}
use mathlib.Core.List.{List, Memᴰ}
use Rattle.stacks.specs.System.{Rule}
use Rattle.automata.specs.Automaton.{Automaton}
use Rattle.automata.specs.Facts.{RuleFacts, TableFacts, OwnFacts}
use Rattle.automata.specs.Saturation.{Size, Saturated, saturate}
use Rattle.rounds.specs.Sizes.{AfterRounds}
use Rattle.rounds.proofs.Before.{table_extends, table_facts, own_moves_own, later, later_entry}
use Rattle.rounds.specs.Limits.{saturate_some}
use Rattle.files.specs.Case.{head, own_of, rules_of, case_refusal}
use Rattle.files.proofs.Case.Laws.{case_rules, case_table, case_own}
use Rattle.soundness.specs.Facts.{SaturatedFacts}

-- any own automaton with the facts of a sound case
module _ {P : ℕ} {own : Automaton} {rules : List Rule} (table : TableFacts P own) (inner : OwnFacts P own)
    (rule : (ρ : Rule) → Memᴰ ρ rules → RuleFacts P ρ) where
  -- after any number of rounds
  pub saturated_facts : {T : Saturated} → AfterRounds rules own T → SaturatedFacts P own rules T
  saturated_facts s =
      record {
        own_table = table;
        own_inner = inner;
        table = table_facts s rule table;
        extends = table_extends s;
        rule_facts = rule;
        own_moves_holds = own_moves_own s;
        later_entry = later_entry s;
        derived = λ i l h. ((later s i l h).derivation, (later s i l h).is_first);
      }

pub case_saturated : (file : List ℕ) (lent : Size) (n : ℕ) {T : Saturated} → case_refusal file ≡ 0 → saturate (rules_of file) lent n (own_of file) ≡ some T
    → SaturatedFacts (head file).P (own_of file) (rules_of file) T
case_saturated file lent n {T} sound e =
    saturated_facts (case_table file sound) (case_own file sound) (λ ρ j. case_rules file sound j) (saturate_some (rules_of file) lent (own_of file) n e).after
