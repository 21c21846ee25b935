-- Decorated stacks: stacks whose cells carry their choices, and the guided run on them, as `Guide` has it on cells.
-- Assumes nothing.
use Rattle.std.specs.Prelude.{ℕ, zero, suc, true, false, ◌≡◌, List, [], ◌∷◌, get_or, ltb}
use Rattle.std.proofs.Math.Option.{Option, none, some}
use Rattle.std.proofs.Math.ListN.{get_elem?}
use Rattle.stacks.specs.Stack.{Stack1, nil1, cons1, Stack2, nil2, cons2, Annotation, of1, of2}
use Rattle.stacks.specs.Stack.{Operation, rewrite, push1, push2, copy, pop1, pop2, collapse1, collapse2}
use Rattle.stacks.specs.System.{Rule, Configuration, step}
use Rattle.automata.specs.Automaton.{Automaton, move_at, edge_at}
use Rattle.automata.specs.Acceptance.{in_target}
use Rattle.automata.specs.Derivation.{Derivation, result_of, first_derivation}
use Rattle.automata.specs.Saturation.{Saturated, before, own_moves}
use Rattle.walks.specs.Guide.{least_choice, choices_after}

-- The three types of stacks. A symbol carries the number of a move by order-1 state, and an order-1 stack on an order-2 stack the number
-- of an edge by order-2 state.
mutual
  pub data Decorated1 : Type 0 where
    nil1' : Decorated1
    cons1' : ℕ → DecoratedAnnotation → Decorated1 → (ℕ → ℕ) → Decorated1

  pub data Decorated2 : Type 0 where
    nil2' : Decorated2
    cons2' : Decorated1 → Decorated2 → (ℕ → ℕ) → Decorated2

  pub data DecoratedAnnotation : Type 0 where
    of1' : Decorated1 → DecoratedAnnotation
    of2' : Decorated2 → DecoratedAnnotation

-- the stack without the choices
unfoldable mutual
  pub erase1 : Decorated1 → Stack1
  erase1 nil1' = nil1
  erase1 (cons1' a u s f) = cons1 a (erase_annotation u) (erase1 s)

  pub erase2 : Decorated2 → Stack2
  erase2 nil2' = nil2
  erase2 (cons2' w t g) = cons2 (erase1 w) (erase2 t)

  pub erase_annotation : DecoratedAnnotation → Annotation
  erase_annotation (of1' s) = of1 (erase1 s)
  erase_annotation (of2' t) = of2 (erase2 t)

-- "Each cell and each state accepting it gets the choice of least number."
module _ (A : Automaton) where
  unfoldable mutual
    pub decorate1 : Stack1 → Decorated1
    decorate1 nil1 = nil1'
    decorate1 (cons1 a u s) = cons1' a (decorate_annotation u) (decorate1 s) (least_choice A (of1 (cons1 a u s)))

    pub decorate2 : Stack2 → Decorated2
    decorate2 nil2 = nil2'
    decorate2 (cons2 w t) = cons2' (decorate1 w) (decorate2 t) (least_choice A (of2 (cons2 w t)))

    pub decorate_annotation : Annotation → DecoratedAnnotation
    decorate_annotation (of1 s) = of1' (decorate1 s)
    decorate_annotation (of2 t) = of2' (decorate2 t)

-- a control and a decorated stack
pub record DecoratedWalk : Type 0 where
  pub control : ℕ
  pub stack : Decorated2

unfoldable pub erased : DecoratedWalk → Configuration
erased w = record { control = w.control; stack = erase2 w.stack }

-- the walk of a configuration whose stack has its least choices
unfoldable pub decorated : Automaton → Configuration → DecoratedWalk
decorated A c = record { control = c.control; stack = decorate2 A c.stack }

-- the top of a walk: its symbol a, annotation u, s and t, and the number of the chosen move
pub record DecoratedTop : Type 0 where
  pub a : ℕ
  pub u : DecoratedAnnotation
  pub s : Decorated1
  pub t : Decorated2
  pub move : ℕ

unfoldable pub top_of : Automaton → ℕ → Decorated2 → Option DecoratedTop
top_of A p nil2' = none
top_of A p (cons2' nil1' t g) = none
top_of A p (cons2' (cons1' a u s f) t g) = some (record { a = a; u = u; s = s; t = t; move = f (edge_at A (g p)).first })

-- the choices of new cell number n
abbrev pub choices_of : List (ℕ → ℕ) → ℕ → ℕ → ℕ
choices_of fs n = get_or fs n (λ q. 0)

-- "top afterwards", where the new cells carry these choices, in the order of `cells_after`
unfoldable pub after_decorated : Operation → List (ℕ → ℕ) → ℕ → DecoratedAnnotation → Decorated1 → Decorated2 → Option Decorated2
after_decorated (rewrite b) fs a u s t = some (cons2' (cons1' b u s (choices_of fs 0)) t (choices_of fs 1))
after_decorated (push1 b) fs a u s t = some (cons2' (cons1' b (of1' s) (cons1' a u s (choices_of fs 0)) (choices_of fs 1)) t (choices_of fs 2))
after_decorated (push2 b) fs a u s t = some (cons2' (cons1' b (of2' t) (cons1' a u s (choices_of fs 0)) (choices_of fs 1)) t (choices_of fs 2))
after_decorated copy fs a u s t =
    some (cons2' (cons1' a u s (choices_of fs 2)) (cons2' (cons1' a u s (choices_of fs 0)) t (choices_of fs 1)) (choices_of fs 3))
after_decorated pop1 fs a u s t = some (cons2' s t (choices_of fs 0))
after_decorated pop2 fs a u s t = some t
after_decorated collapse1 fs a (of1' u) s t = some (cons2' u t (choices_of fs 0))
after_decorated collapse1 fs a (of2' u) s t = none
after_decorated collapse2 fs a (of1' u) s t = none
after_decorated collapse2 fs a (of2' u) s t = some u

-- One step answers: arrived, a trace word with the next walk, or stuck.
pub data DecoratedNext : Type 0 where
  arrived : DecoratedNext
  to : ℕ → DecoratedWalk → DecoratedNext
  stuck : DecoratedNext

-- a step by rule n to control p' with the stack that its operation left
unfoldable pub leaves : ℕ → ℕ → Option Decorated2 → DecoratedNext
leaves n p' none = stuck
leaves n p' (some t) = to n (record { control = p'; stack = t })

module _ (rules : List Rule) (T : Saturated) where
  unfoldable pub by_derivation : DecoratedTop → Option Derivation → DecoratedNext
  by_derivation x none = stuck
  by_derivation x (some d) = elim (get_elem? rules d.rule) [
    | none ↦ stuck
    | some ρ ↦ leaves d.rule ρ.next
        (after_decorated ρ.operation (choices_after T.table d ρ.next ρ.operation) x.a x.u x.s x.t)
  ]

  -- "The chosen move at the top has arrived if it is from round 0. Otherwise the step is its first derivation from earlier rounds." "The
  -- walk has also arrived where no move is needed."
  unfoldable pub at_top : Option DecoratedTop → DecoratedNext
  at_top none = arrived
  at_top (some x) = elim (ltb x.move (own_moves T.sizes)) [
    | true ↦ arrived
    | false ↦ by_derivation x (first_derivation (before T x.move) rules (result_of T.table (move_at T.table x.move)))
  ]

  unfoldable pub next : DecoratedWalk → DecoratedNext
  next w = at_top (top_of T.table w.control w.stack)

  -- the walk after m steps, where it has that many
  unfoldable pub walk_after : ℕ → DecoratedWalk → Option DecoratedWalk
  walk_after zero w = some w
  walk_after (suc m) w = elim (next w) [ arrived ↦ none | to n v ↦ walk_after m v | stuck ↦ none ]

  -- the rule numbers of its first m steps, or of all where it has fewer
  unfoldable pub trace_after : ℕ → DecoratedWalk → List ℕ
  trace_after zero w = []
  trace_after (suc m) w = elim (next w) [ arrived ↦ [] | to n v ↦ n ∷ trace_after m v | stuck ↦ [] ]

  -- The walk arrives in the target of `own` after finitely many steps, each of which is a step of the rule that it names.
  pub data Arrives (own : Automaton) : DecoratedWalk → Type 0 where
    here : {w : DecoratedWalk} → next w ≡ arrived → in_target own (erased w) ≡ true → Arrives own w
    onward : {w v : DecoratedWalk} {n : ℕ} (ρ : Rule) → next w ≡ to n v → get_elem? rules n ≡ some ρ → step ρ (erased w) ≡ some (erased v)
        → Arrives own v → Arrives own w
