-- Yes and no: a configuration that the table after some rounds accepts from its control has a finite run of the rules into the target, and the
-- closed table accepts each that has one; what there is to add to a table.
-- Assumes nothing.
use Rattle.std.specs.Prelude.{ℕ, true, false, ◌≡◌, ◌↔◌, length}
use Rattle.std.proofs.Common.{ap, ◌∙◌, arith}
use mathlib.Core.List.{List, Memᴰ}
use Rattle.stacks.specs.System.{Configuration, Rule}
use Rattle.stacks.proofs.Published.Laws.{run_transitions, transitions_run}
use Rattle.automata.specs.Automaton.{Automaton}
use Rattle.automata.specs.Acceptance.{accepts2}
use Rattle.automata.specs.Facts.{RuleFacts, TableFacts, OwnFacts, Closed}
use Rattle.automata.specs.Saturation.{Saturated, adds_move}
use Rattle.rounds.specs.Rounds.{after_suc, still_closed, closed_same}
use Rattle.rounds.specs.Sizes.{AfterRounds}
use Rattle.rounds.specs.Limits.{adds_some, nothing_closed}
use Rattle.rounds.proofs.Before.{table_extends}
use Rattle.completeness.proofs.Complete.{run_accepted}
use Rattle.soundness.proofs.Theorem.{sound}
use Rattle.files.specs.Case.{own_of, rules_of}
use Rattle.demands.specs.Laws.FromBytes.{saturated_facts}
use Rattle.demands.specs.Reach.{Reaches, PublishedReaches, round_table, AddsMove, AddsNothing}

pub reaches_published : {rules : List Rule} {own : Automaton} {c : Configuration} → Reaches rules own c ↔ PublishedReaches rules own c
reaches_published {rules} = (
  λ x. record { end = x.end; transitions = run_transitions rules x.run; in_target_holds = x.in_target_holds },
  λ x. let (ns, r) = transitions_run rules x.transitions in record { trace = ns; end = x.end; run = r; in_target_holds = x.in_target_holds },
)

module _ {P : ℕ} {own : Automaton} {rules : List Rule} (table : TableFacts P own) (inner : OwnFacts P own)
    (rule : (ρ : Rule) → Memᴰ ρ rules → RuleFacts P ρ) where
  -- yes means a run, after any number of rounds
  pub accepted_reaches : {T : Saturated} → AfterRounds rules own T → (c : Configuration)
      → accepts2 T.table c.stack c.control ≡ true → Reaches rules own c
  accepted_reaches s c h =
      let (ns, d, r, e) = sound (saturated_facts table inner rule s) c h in
      record { trace = ns; end = d; run = r; in_target_holds = e }

  -- no means no run, where the table holds every result
  pub reaches_accepted : {T : Saturated} → AfterRounds rules own T → Closed rules T.table → (c : Configuration) → Reaches rules own c
      → accepts2 T.table c.stack c.control ≡ true
  reaches_accepted {T = T} s closed c x =
      run_accepted rules T.table (saturated_facts table inner rule s).table rule closed (table_extends s) x.run x.in_target_holds

-- ---- what there is to add to the table after m rounds

-- nothing is left to add exactly if the table is closed
pub nothing_is_closed : (case : List ℕ) (m : ℕ) → AddsNothing case m → Closed (rules_of case) (round_table case m)
nothing_is_closed case m e = still_closed (rules_of case) (round_table case m) (rw (after_suc (rules_of case) (own_of case) m) at e)

pub closed_is_nothing : (case : List ℕ) (m : ℕ) → Closed (rules_of case) (round_table case m) → AddsNothing case m
closed_is_nothing case m c = ap (λ (A : Automaton). length A.moves) (after_suc (rules_of case) (own_of case) m ∙ closed_same (rules_of case) (round_table case m) c)

-- a round adds a move or nothing
pub adds_not : (case : List ℕ) (m : ℕ) → AddsMove case m → AddsNothing case m → ⊥
adds_not case m a e = omega arith

-- as the definitions test it
pub tested_adds : (case : List ℕ) (m : ℕ) → adds_move (rules_of case) (round_table case m) ≡ true → AddsMove case m
tested_adds case m t = rw (after_suc (rules_of case) (own_of case) m) (adds_some (rules_of case) (round_table case m) t)

pub tested_nothing : (case : List ℕ) (m : ℕ) → adds_move (rules_of case) (round_table case m) ≡ false → AddsNothing case m
tested_nothing case m t = closed_is_nothing case m (nothing_closed (rules_of case) (round_table case m) t)
