-- The first derivation of a known result as a nested search: the first rule, then the first premise for which the rest succeeds.
-- Assumes nothing.
pub mod Laws
use Rattle.std.specs.Prelude.{ℕ, suc, ◌+◌, Bool, true, false, ◌&&◌, ◌||◌, List, [], ◌∷◌, eqb}
use Rattle.std.proofs.Math.Option.{Option, none, some, map}
use Rattle.words.specs.Sets.{join, single, members}
use Rattle.words.specs.Order.{same}
use Rattle.stacks.specs.Stack.{Operation, rewrite, push1, push2, copy, pop1, pop2, collapse1, collapse2}
use Rattle.stacks.specs.System.{Rule}
use Rattle.automata.specs.Automaton.{Automaton, move_at, entry_set}
use Rattle.automata.specs.Derivation.{Result, Derivation, Joins, no_joins, joins_of, control_moves, control_entries}
use Rattle.first_reading.specs.First.{only_if, or_else, first_of}
use Rattle.first_reading.specs.Search.{joins_key, wanted, Numbers, no_numbers, only_moves, first_reading, first_edges}

-- a derivation without its rule and its result
pub record PremiseNumbers : Type 0 where
  pub premise : List ℕ
  pub numbers : Numbers

abbrev pub with_premise : ℕ → Numbers → PremiseNumbers
with_premise i n = record { premise = i ∷ []; numbers = n }

-- the derivation of x by rule n
abbrev pub derived : ℕ → Result → PremiseNumbers → Derivation
derived n x s = record { rule = n; premise = s.premise; edges = s.numbers.edges; moves = s.numbers.moves; result = x }

-- no premise
unfoldable pub by_none : Result → ℕ → Joins → Option PremiseNumbers
by_none x S j = only_if (eqb S x.S) (only_if (same (joins_key j) (wanted x)) (some (record { premise = []; numbers = no_numbers })))

-- the joins that an entry as the premise gives: by pop 1, and by collapse 1
unfoldable pub entry_joins : Bool → ℕ → Joins
entry_joins false r = record { order = 0; B = 0; R = single r }
entry_joins true r = record { order = 1; B = single r; R = 0 }

module _ (A : Automaton) (x : Result) where
  -- entry e as a premise gives x by these joins
  unfoldable pub by_entry : (ℕ → Joins) → ℕ → Option Numbers
  by_entry joins e = only_if (eqb (entry_set A (A.J + e)) x.S) (only_if (same (joins_key (joins (A.J + e))) (wanted x)) (some no_numbers))

  -- the first entry of p' as a premise
  unfoldable pub first_entry : (ℕ → Joins) → ℕ → Option PremiseNumbers
  first_entry joins p' = first_of (control_entries A p') (λ e. map (with_premise e) (by_entry joins e))

module _ (A : Automaton) (a : ℕ) (x : Result) where
  -- the first edges and moves by which premise i, a move, gives x
  unfoldable pub by_move : Operation → ℕ → Option Numbers
  by_move (rewrite b) i = only_if (eqb (entry_set A (move_at A i).state) x.S)
      (only_if (same (joins_key (joins_of (move_at A i))) (wanted x)) (some no_numbers))
  by_move (push1 b) i = only_if (eqb (move_at A i).order 0 || eqb (move_at A i).order 1)
      (only_if (eqb (entry_set A (move_at A i).state) x.S)
      (map only_moves (first_reading A a (wanted x) (members (move_at A i).R) (record { order = 0; B = 0; R = (move_at A i).B }))))
  by_move (push2 b) i = only_if (eqb (move_at A i).order 0 || eqb (move_at A i).order 2)
      (only_if (eqb (join (entry_set A (move_at A i).state) (move_at A i).B) x.S)
      (map only_moves (first_reading A a (wanted x) (members (move_at A i).R) no_joins)))
  by_move copy i = first_edges A a (wanted x) (joins_of (move_at A i)) x.S (members (entry_set A (move_at A i).state)) 0 0
  by_move pop1 i = none
  by_move pop2 i = none
  by_move collapse1 i = none
  by_move collapse2 i = none

  -- the first move on b of an entry of p' as a premise
  unfoldable pub first_move : Operation → ℕ → ℕ → Option PremiseNumbers
  first_move op p' b = first_of (control_moves A p' b) (λ i. map (with_premise i) (by_move op i))

  -- the first derivation of x by a rule on a with this operation, whose next control is p'
  unfoldable pub first_step : Operation → ℕ → Option PremiseNumbers
  first_step (rewrite b) p' = first_move (rewrite b) p' b
  first_step (push1 b) p' = first_move (push1 b) p' b
  first_step (push2 b) p' = first_move (push2 b) p' b
  first_step copy p' = first_move copy p' a
  first_step pop1 p' = first_entry A x (entry_joins false) p'
  first_step pop2 p' = by_none x (single p') no_joins
  first_step collapse1 p' = first_entry A x (entry_joins true) p'
  first_step collapse2 p' = by_none x 0 (record { order = 2; B = single p'; R = 0 })

module _ (A : Automaton) (x : Result) where
  -- the first derivation of x by this rule: it goes to the rule's control and symbol
  unfoldable pub by_rule : Rule → Option PremiseNumbers
  by_rule ρ = only_if (eqb ρ.control x.control && eqb ρ.symbol x.symbol) (first_step A ρ.symbol x ρ.operation ρ.next)

  -- the first derivation of x by these rules, the first of which has number n
  unfoldable pub first_from : ℕ → List Rule → Option Derivation
  first_from n [] = none
  first_from n (ρ ∷ rules) = or_else (map (derived n x) (by_rule ρ)) (first_from (suc n) rules)
