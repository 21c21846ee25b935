-- The choices of a step are those of a derivation, where the words hold the derivation's numbers.
-- Assumes nothing.
use Rattle.std.specs.Prelude.{ℕ, ◌-◌, ◌≡◌, get_or}
use Rattle.std.proofs.Math.Path.{refl, ap, fun_ext}
use Rattle.std.proofs.Common.{◌∙◌}
use mathlib.Core.List.{List, [], ◌∷◌}
use Rattle.words.specs.Sets.{members}
use Rattle.stacks.specs.Stack.{Operation, rewrite, push1, push2, copy, pop1, pop2, collapse1, collapse2}
use Rattle.automata.specs.Automaton.{Automaton, move_at, entry_set, entry_edge}
use Rattle.automata.specs.Derivation.{Derivation, named}
use Rattle.walks.specs.Guide.{first_or_zero, chooses, chooses_all, premise, top_choice, root_choice, choices_after}
use Rattle.cell_steps.specs.Steps.{choice_of, step_chosen, step_choices}

module _ (A : Automaton) where
  -- The entry that the new top symbol's move is of, by the number of the premise; 0 where there is no new symbol.
  unfoldable pub top_state : Operation → ℕ → ℕ
  top_state (rewrite b) number = (move_at A number).state
  top_state (push1 b) number = (move_at A number).state
  top_state (push2 b) number = (move_at A number).state
  top_state copy number = (move_at A number).state
  top_state pop1 number = 0
  top_state pop2 number = 0
  top_state collapse1 number = 0
  top_state collapse2 number = 0

  -- The edge that the new root chooses, by the number of the premise; 0 where there is no new root.
  unfoldable pub root_edge : Operation → ℕ → ℕ
  root_edge (rewrite b) number = entry_edge A ((move_at A number).state - A.J)
  root_edge (push1 b) number = entry_edge A ((move_at A number).state - A.J)
  root_edge (push2 b) number = entry_edge A ((move_at A number).state - A.J)
  root_edge copy number = entry_edge A ((move_at A number).state - A.J)
  root_edge pop1 number = entry_edge A number
  root_edge pop2 number = 0
  root_edge collapse1 number = entry_edge A number
  root_edge collapse2 number = 0

  module _ (d : Derivation) where
    -- the words hold the moves that d reads from the rest set of its premise
    abbrev pub HoldsRest : List ℕ → Type 0
    HoldsRest ms = (q : ℕ) → get_or ms q 0 ≡ chooses_all (members (move_at A (first_or_zero d.premise)).R) d.moves q

    -- the words es and ms hold, by state, the numbers of the edges and moves that d chooses
    abbrev pub HoldsNumbers : Operation → List ℕ → List ℕ → Type 0
    HoldsNumbers (rewrite b) es ms = Unit {0}
    HoldsNumbers (push1 b) es ms = HoldsRest ms
    HoldsNumbers (push2 b) es ms = HoldsRest ms
    HoldsNumbers copy es ms =
        ((q : ℕ) → get_or ms q 0 ≡ chooses_all (members (named A d.edges)) d.moves q)
        × ((q : ℕ) → get_or es q 0 ≡ chooses_all (members (entry_set A (move_at A (first_or_zero d.premise)).state)) d.edges q)
    HoldsNumbers pop1 es ms = Unit {0}
    HoldsNumbers pop2 es ms = Unit {0}
    HoldsNumbers collapse1 es ms = Unit {0}
    HoldsNumbers collapse2 es ms = Unit {0}

    module _ (p' : ℕ) where
      top_is : {r number : ℕ} → number ≡ first_or_zero d.premise → r ≡ (move_at A number).state → chooses r number ≡ top_choice A d p'
      unfolding top_choice premise
      top_is n s = λ i. chooses ((s ∙ ap (λ (k : ℕ). (move_at A k).state) n) i) (n i)

      root_is : {edge number : ℕ} → number ≡ first_or_zero d.premise → edge ≡ entry_edge A ((move_at A number).state - A.J) → chooses p' edge ≡ root_choice A d p'
      unfolding root_choice premise
      root_is n e = ap (chooses p') (e ∙ ap (λ (k : ℕ). entry_edge A ((move_at A k).state - A.J)) n)

      entry_is : {edge number : ℕ} → number ≡ first_or_zero d.premise → edge ≡ entry_edge A number → chooses p' edge ≡ chooses p' (entry_edge A (premise A d p'))
      unfolding premise
      entry_is n e = ap (chooses p') (e ∙ ap (entry_edge A) n)

      -- "New cells carry the choices of that derivation."
      pub step_choices_lem : (op : Operation) (es ms : List ℕ) (r edge number : ℕ) → number ≡ first_or_zero d.premise → r ≡ top_state op number → edge ≡ root_edge op number
          → HoldsNumbers op es ms → step_choices r number p' edge es ms op ≡ choices_after A d p' op
      unfolding step_choices step_chosen choice_of choices_after premise top_state root_edge
      step_choices_lem (rewrite b) es ms r edge number n s e h = λ i. top_is n s i ∷ root_is n e i ∷ []
      step_choices_lem (push1 b) es ms r edge number n s e h = λ i. fun_ext h i ∷ top_is n s i ∷ root_is n e i ∷ []
      step_choices_lem (push2 b) es ms r edge number n s e h = λ i. fun_ext h i ∷ top_is n s i ∷ root_is n e i ∷ []
      step_choices_lem copy es ms r edge number n s e h = λ i. fun_ext h.0 i ∷ fun_ext h.1 i ∷ top_is n s i ∷ root_is n e i ∷ []
      step_choices_lem pop1 es ms r edge number n s e h = λ i. entry_is n e i ∷ []
      step_choices_lem pop2 es ms r edge number n s e h = refl
      step_choices_lem collapse1 es ms r edge number n s e h = λ i. entry_is n e i ∷ []
      step_choices_lem collapse2 es ms r edge number n s e h = refl
