-- The results of a rule: what all premises of its operation give. Rules/Laws shows that they are the results of the rule's
-- derivations, in the same order.
-- Assumes nothing.
pub mod Laws
use Rattle.std.specs.Prelude.{ℕ, ◌+◌, List, [], ◌∷◌}
use Rattle.words.specs.Sets.{single}
use Rattle.words.specs.Lists.{each}
use Rattle.stacks.specs.Stack.{Operation, rewrite, push1, push2, copy, pop1, pop2, collapse1, collapse2}
use Rattle.stacks.specs.System.{Rule}
use Rattle.automata.specs.Automaton.{Automaton, entry_set}
use Rattle.automata.specs.Derivation.{Result, no_joins, control_entries}
use Rattle.readings.specs.Readings.{result_to}
use Rattle.premises.specs.declared.MoveUse.TheVariants.{Rewritten, Pushed1, Pushed2, Copied}
use Rattle.premises.specs.Premises.{moves_results}
use Rattle.results.specs.declared.EntryUse.{EntryUse}
use Rattle.results.specs.declared.EntryUse.TheVariants.{Popped, Collapsed}

-- what order-1 state r, an entry [p',S], gives to symbol a of [p,S]
unfoldable pub entry_result : ℕ → ℕ → EntryUse → ℕ → ℕ → Result
entry_result p a Popped S r = result_to p a S (record { order = 0; B = 0; R = single r })
entry_result p a Collapsed S r = result_to p a S (record { order = 1; B = single r; R = 0 })

module _ (A : Automaton) (p a : ℕ) where
  -- what the entries of control q give
  unfoldable pub entries_results : EntryUse → ℕ → List Result
  entries_results k q = each (control_entries A q) (λ e. entry_result p a k (entry_set A (A.J + e)) (A.J + e) ∷ [])

  -- what an operation gives that goes to control q
  unfoldable pub operation_results : Operation → ℕ → List Result
  operation_results (rewrite b) q = moves_results A p a Rewritten b q
  operation_results (push1 b) q = moves_results A p a Pushed1 b q
  operation_results (push2 b) q = moves_results A p a Pushed2 b q
  operation_results copy q = moves_results A p a Copied a q
  operation_results pop1 q = entries_results Popped q
  operation_results pop2 q = result_to p a (single q) no_joins ∷ []
  operation_results collapse1 q = entries_results Collapsed q
  operation_results collapse2 q = result_to p a 0 (record { order = 2; B = single q; R = 0 }) ∷ []

-- the results of a rule
unfoldable pub rule_results : Automaton → Rule → List Result
rule_results A ρ = operation_results A ρ.control ρ.symbol ρ.operation ρ.next

-- the results of a rule, in the code
abbrev pub rule_gives : Rule → Automaton → List Result
rule_gives ρ A = rule_results A ρ
