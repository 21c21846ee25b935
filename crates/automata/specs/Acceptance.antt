-- Acceptance of stacks from states and from sets, and the target.
-- Assumes nothing.
use Rattle.std.specs.Prelude.{ℕ, zero, suc, Bool, true, false, ◌&&◌, eqb}
use Rattle.words.specs.Sets.{member, members}
use Rattle.words.specs.Lists.{only, every, some_of}
use Rattle.stacks.specs.Stack.{Stack1, nil1, cons1, Stack2, nil2, cons2, Annotation, of1, of2}
use Rattle.stacks.specs.System.{Configuration}
use Rattle.automata.specs.Automaton.{Automaton, Move, Edge, edges}

module _ (A : Automaton) where
  unfoldable mutual
    -- "An order-1 state accepts a nonempty stack if a move of its has the top symbol, R accepts the rest, and at order k > 0 the
    -- annotation has order k and B accepts it." "An empty stack is accepted by final states only", inner states and the final entries of
    -- the file.
    pub accepts1 : Stack1 → ℕ → Bool
    accepts1 nil1 r = member A.final1 r
    accepts1 (cons1 a u s) r =
        some_of (λ m. accepts_annotation u m.order m.B && every (λ q. accepts1 s q) (members m.R))
        (only (λ m. eqb m.state r && eqb m.symbol a) A.moves)

    -- "An order-2 state accepts a nonempty stack if one of its edges (r,S) has r accepting the top and S the rest."
    pub accepts2 : Stack2 → ℕ → Bool
    accepts2 nil2 q = member A.final2 q
    accepts2 (cons2 w t) q =
        some_of (λ e. accepts1 w e.first && every (λ x. accepts2 t x) (members e.S)) (only (λ e. eqb e.state q) (edges A))

    -- The annotation is as a move of this order and annotation set asks: anything at order 0, else of that order and accepted by
    -- the set. "A set accepts what all its members accept; the empty set accepts every stack."
    pub accepts_annotation : Annotation → ℕ → ℕ → Bool
    accepts_annotation (of1 u) zero B = true
    accepts_annotation (of1 u) (suc zero) B = every (λ q. accepts1 u q) (members B)
    accepts_annotation (of1 u) (suc (suc k)) B = false
    accepts_annotation (of2 u) zero B = true
    accepts_annotation (of2 u) (suc zero) B = false
    accepts_annotation (of2 u) (suc (suc k)) B = every (λ q. accepts2 u q) (members B)

  -- the annotation and the rest of a top symbol are as move m asks
  unfoldable pub move_fits : Annotation → Stack1 → Move → Bool
  move_fits u s m = accepts_annotation u m.order m.B && every (λ q. accepts1 s q) (members m.R)

  -- the top and the rest of an order-2 stack are as edge e asks
  unfoldable pub edge_fits : Stack1 → Stack2 → Edge → Bool
  edge_fits w t e = accepts1 w e.first && every (λ q. accepts2 t q) (members e.S)

  -- "The target is every configuration that the case's own automaton accepts from its control."
  unfoldable pub in_target : Configuration → Bool
  in_target c = accepts2 c.stack c.control
