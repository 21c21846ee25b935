-- One step of the walk: when it has arrived, and where it goes otherwise.
-- Assumes nothing.
use Rattle.std.specs.Prelude.{ℕ, ◌<◌, ◌≤◌, ◌≡◌, refl, List}
use Rattle.std.proofs.Math.Path.{ap}
use Rattle.std.proofs.Common.{◌∙◌}
use Rattle.std.proofs.Math.Option.{some, map}
use Rattle.std.proofs.Math.ListN.{get_elem?}
use borrow.Author.Tests.{eq-eqb, lt-ltb, le-ltb}
use Rattle.stacks.specs.Stack.{Operation, rewrite, push1, push2, copy, pop1, pop2, collapse1, collapse2, after}
use Rattle.stacks.specs.System.{Rule, step, step_on, entered}
use Rattle.automata.specs.Automaton.{Automaton, move_at, edge_at}
use Rattle.automata.specs.Derivation.{Derivation, result_of, first_derivation}
use Rattle.automata.specs.Saturation.{Saturated, before, own_moves}
use Rattle.walks.specs.Guide.{choices_after}
use Rattle.soundness.specs.Decorated.{Decorated1, nil1', cons1', Decorated2, nil2', cons2', DecoratedAnnotation, of1', of2', erase1, erase2, erase_annotation, erased, top_of, after_decorated, DecoratedWalk, arrived, to, leaves, by_derivation, at_top, next, Arrives, onward}

-- without the choices, an operation leaves what document 01's table says
pub after_erased : (o : Operation) (fs : List (ℕ → ℕ)) (a : ℕ) (u : DecoratedAnnotation) (s : Decorated1) (t : Decorated2)
    → after o a (erase_annotation u) (erase1 s) (erase2 t) ≡ map erase2 (after_decorated o fs a u s t)
unfolding after after_decorated erase1
after_erased (rewrite b) fs a u s t = refl
after_erased (push1 b) fs a u s t = refl
after_erased (push2 b) fs a u s t = refl
after_erased copy fs a u s t = refl
after_erased pop1 fs a u s t = refl
after_erased pop2 fs a u s t = refl
after_erased collapse1 fs a (of1' u) s t = refl
after_erased collapse1 fs a (of2' u) s t = refl
after_erased collapse2 fs a (of1' u) s t = refl
after_erased collapse2 fs a (of2' u) s t = refl

-- "The walk has also arrived where no move is needed": at the empty order-2 stack, and at an empty top order-1 stack.
pub empty_arrived : (rules : List Rule) (T : Saturated) (p : ℕ) → next rules T (record { control = p; stack = nil2' }) ≡ arrived
unfolding next top_of at_top
empty_arrived rules T p = refl

pub empty_top_arrived : (rules : List Rule) (T : Saturated) (p : ℕ) (t : Decorated2) (g : ℕ → ℕ)
    → next rules T (record { control = p; stack = cons2' nil1' t g }) ≡ arrived
unfolding next top_of at_top
empty_top_arrived rules T p t g = refl

-- A walk from control p: symbol a annotated u, then s, then t. The symbol has the choices f, and the root has the choices g.
module _ (own : Automaton) (rules : List Rule) (T : Saturated) (p a : ℕ) (u : DecoratedAnnotation) (s : Decorated1) (f : ℕ → ℕ) (t : Decorated2) (g : ℕ → ℕ) where
  -- the walk with this top
  abbrev pub at : DecoratedWalk
  at = record { control = p; stack = cons2' (cons1' a u s f) t g }

  -- the chosen move at the top
  abbrev pub chosen : ℕ
  chosen = f (edge_at T.table (g p)).first

  pub next_arrived : chosen < own_moves T.sizes → next rules T at ≡ arrived
  unfolding next top_of at_top
  next_arrived h = rw (next, top_of, at_top, lt-ltb chosen (own_moves T.sizes) h)

  -- a walk goes on by the first derivation d of the move chosen at the top
  module _ (d : Derivation) (ρ : Rule) (v : Decorated2) (h : own_moves T.sizes ≤ chosen)
      (e : first_derivation (before T chosen) rules (result_of T.table (move_at T.table chosen)) ≡ some d)
      (k : get_elem? rules d.rule ≡ some ρ)
      (l : after_decorated ρ.operation (choices_after T.table d ρ.next ρ.operation) a u s t ≡ some v) where
    pub next_to : next rules T at ≡ to d.rule (record { control = ρ.next; stack = v })
    unfolding next top_of at_top by_derivation leaves
    next_to = rw (next, top_of, at_top, le-ltb chosen (own_moves T.sizes) h, e, by_derivation, k, l)

    pub step_to : p ≡ ρ.control → a ≡ ρ.symbol → step ρ (erased at) ≡ some (erased (record { control = ρ.next; stack = v }))
    unfolding step step_on entered erased erase1
    step_to x y =
        let z : after ρ.operation a (erase_annotation u) (erase1 s) (erase2 t) ≡ some (erase2 v) =
        after_erased ρ.operation (choices_after T.table d ρ.next ρ.operation) a u s t ∙ ap (map erase2) l in
        rw (step, step_on, eq-eqb p ρ.control x, eq-eqb a ρ.symbol y, z)

    pub arrives_onward : p ≡ ρ.control → a ≡ ρ.symbol → Arrives rules T own (record { control = ρ.next; stack = v }) → Arrives rules T own at
    arrives_onward x y r = onward ρ next_to k (step_to x y) r
