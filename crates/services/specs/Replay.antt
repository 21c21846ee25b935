-- The service replay: whether a trace of rule numbers, whoever made it, is a run from a start that ends in the target.
-- Assumes nothing.
use Rattle.std.specs.Prelude.{ℕ, suc, ◌+◌, ◌/◌, ◌%◌, min, true, false, List, [], ◌∷◌, ◌++◌, map, length, eqb, ltb, leb}
use Rattle.std.proofs.Math.Option.{Option, none, some}
use Rattle.std.proofs.Math.ListN.{get_elem?}
use Rattle.words.specs.Lists.{zeros}
use Rattle.stacks.specs.Stack.{new_cells}
use Rattle.stacks.specs.System.{Configuration, Rule, step}
use Rattle.automata.specs.Automaton.{Automaton}
use Rattle.automata.specs.Acceptance.{in_target}
use Rattle.replies.specs.declared.Replayed.{Replayed}
use Rattle.replies.specs.declared.Replayed.TheVariants.{Refused, Accepted, FailsAt}
use Rattle.files.specs.Bytes.{number, records, Test, first_hit, tests_on}
use Rattle.files.specs.Case.{case_tests, own_of, rules_of}
use Rattle.files.specs.Start.{Files, start_tests, cells_of, configuration_at}
use Rattle.services.specs.Guide.{number_tests}

-- the two files, the number of a start, the bytes of the trace, and the length in bytes of the cells lent
pub record ReplayInput : Type 0 where
  pub case : List ℕ
  pub start : List ℕ
  pub number : ℕ
  pub trace : List ℕ
  pub cells : ℕ

unfoldable pub replay_files : ReplayInput → Files
replay_files x = record { case = x.case; start = x.start }

-- "rule numbers of two bytes each", low byte first
unfoldable pub rule_numbers : List ℕ → List ℕ
rule_numbers bytes = map number (records (length bytes / 2) 2 bytes)

-- A lent cell is six bytes, in the form of start body 2. "It replays them with up to 4,096 cells."
unfoldable pub replay_cells : ReplayInput → ℕ
replay_cells x = min (x.cells / 6) 4096

-- refusal 10: "the trace has an odd number of bytes, after 7"
unfoldable pub trace_tests : List (Test ReplayInput)
trace_tests = record { fails = λ x. eqb (length x.trace % 2) 1; refusal = 10 } ∷ []

-- refusal 11, as far as it is "for the start file": "the replay needs more cells than lent or than 4,096"
unfoldable pub cell_tests : List (Test ReplayInput)
cell_tests = record { fails = λ x. ltb (replay_cells x) (length (cells_of x.start)); refusal = 11 } ∷ []

-- refusals 1 to 7 and 10 to 12, before the first step
unfoldable pub replay_refusal : ReplayInput → ℕ
replay_refusal =
    first_hit
    (tests_on (λ x. x.case) case_tests
    ++ (tests_on replay_files start_tests ++ (number_tests (λ x. x.start) (λ x. x.number) ++ (trace_tests ++ cell_tests))))

-- a step that a rule takes: the configuration that it leaves, and its new cells
pub record Taken : Type 0 where
  pub to : Configuration
  pub cells : ℕ

-- the step by rule k at configuration d, where the rule exists and applies
unfoldable pub taken : List Rule → ℕ → Configuration → Option Taken
taken rules k d = elim (get_elem? rules k) [
  | none ↦ none
  | some ρ ↦ elim (step ρ d) [ none ↦ none | some e ↦ some (record { to = e; cells = new_cells ρ.operation }) ]
]

module _ (rules : List Rule) (own : Automaton) (c : ℕ) where
  -- What is answered after n steps, at configuration d with so many cells used, where these rule numbers are left and c cells count. "It ..
  -- accepts only a trace whose rules all exist, apply one after another and end in the target." "The reply otherwise names the first step
  -- that fails, counted from 0, or the trace's length in rule numbers if only the arrival is missing." 11 "at the step it has come to, if
  -- that does not fail".
  unfoldable pub replayed : ℕ → ℕ → Configuration → List ℕ → Replayed
  replayed n used d [] = elim (in_target own d) [ true ↦ Accepted | false ↦ FailsAt n ]
  replayed n used d (k ∷ ks) = elim (taken rules k d) [
    | none ↦ FailsAt n
    | some s ↦ elim (leb (used + s.cells) c) [
      | true ↦ replayed (suc n) (used + s.cells) s.to ks
      | false ↦ Refused 11
    ]
  ]

-- the replay of the whole trace from the start named
unfoldable pub replay_run : ReplayInput → Replayed
replay_run x =
    replayed (rules_of x.case) (own_of x.case) (replay_cells x) 0 (length (cells_of x.start)) (configuration_at x.start x.number)
    (rule_numbers x.trace)

unfoldable pub replay_reply : ReplayInput → ℕ → Replayed
replay_reply x n = elim (eqb n 0) [ true ↦ replay_run x | false ↦ Refused n ]

-- the reply, and the lent cells afterwards: "The lent cells are always zeroed."
pub record ReplayDone : Type 0 where
  pub reply : Replayed
  pub cells : List ℕ

-- replay(case, start, number, trace, cells)
unfoldable pub replay_service : ReplayInput → ReplayDone
replay_service x = record { reply = replay_reply x (replay_refusal x); cells = zeros x.cells }
