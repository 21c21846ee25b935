-- The round in which a stack is won, by recursion on the stack: over one saturated table and the rounds of its moves, with no look at the tables
-- of earlier rounds. Won/Laws.antt proves it equal to the definition.
-- Assumes nothing.
pub mod Answers
pub mod Shown
pub mod Laws
pub mod Few
use Rattle.std.specs.Prelude.{ℕ, zero, suc, max, min, Bool, true, false, ◌&&◌, List, [], ◌∷◌, get_or, eqb}
use Rattle.words.specs.Sets.{member, members}
use Rattle.words.specs.Lists.{places}
use Rattle.stacks.specs.Stack.{Stack1, nil1, cons1, Stack2, nil2, cons2, Annotation, of1, of2, annotation_order}
use Rattle.replies.specs.declared.Acceptance.{Acceptance}
use Rattle.replies.specs.declared.Acceptance.TheVariants.{Never, Since}
use Rattle.automata.specs.Automaton.{Automaton, Move, Edge, no_move, no_edge, edges}
use Rattle.automata.specs.Acceptance.{accepts1, accepts2}
use Rattle.automata.specs.Saturation.{Size, Saturated, round_of}

-- the answer is a round
unfoldable pub is_won : Acceptance → Bool
is_won Never = false
is_won (Since r) = true

-- the earlier and the later of two answers: never is later than every round
unfoldable pub earlier : Acceptance → Acceptance → Acceptance
earlier Never b = b
earlier (Since m) Never = Since m
earlier (Since m) (Since n) = Since (min m n)

unfoldable pub later : Acceptance → Acceptance → Acceptance
later Never b = Never
later (Since m) Never = Never
later (Since m) (Since n) = Since (max m n)

-- the earliest answer for one of these numbers
unfoldable pub earliest : (ℕ → Acceptance) → List ℕ → Acceptance
earliest f [] = Never
earliest f (n ∷ ns) = earlier (f n) (earliest f ns)

-- the latest answer for all of these states: round 0 for no state
unfoldable pub latest : (ℕ → Acceptance) → List ℕ → Acceptance
latest f [] = Since 0
latest f (q ∷ qs) = later (f q) (latest f qs)

-- the empty stack from state q: round 0 from final states
unfoldable pub final_round : ℕ → ℕ → Acceptance
final_round final q = elim (member final q) [ true ↦ Since 0 | false ↦ Never ]

-- an annotation of order k, by the rounds of the states that accept it, is as a move of this order and annotation set asks
unfoldable pub annotation_round : ℕ → (ℕ → Acceptance) → ℕ → ℕ → Acceptance
annotation_round k annotation zero B = Since 0
annotation_round k annotation (suc zero) B = elim (eqb k 1) [ true ↦ latest annotation (members B) | false ↦ Never ]
annotation_round k annotation (suc (suc o)) B = elim (eqb k 2) [ true ↦ latest annotation (members B) | false ↦ Never ]

-- the annotation, of order k, and the rest of a top symbol are as move m asks
unfoldable pub move_round : ℕ → (ℕ → Acceptance) → (ℕ → Acceptance) → Move → Acceptance
move_round k annotation rest m = later (annotation_round k annotation m.order m.B) (latest rest (members m.R))

-- the top and the rest of an order-2 stack are as edge e asks
unfoldable pub edge_round : (ℕ → Acceptance) → (ℕ → Acceptance) → Edge → Acceptance
edge_round top rest e = later (top e.first) (latest rest (members e.S))

-- symbol a, annotated by a stack of order k, on a rest, from order-1 state r: over its moves the earliest of the later among the move's own
-- round and the rounds of its sets
unfoldable pub symbol_round : List Size → ℕ → ℕ → (ℕ → Acceptance) → (ℕ → Acceptance) → List Move → ℕ → Acceptance
symbol_round sizes a k annotation rest moves r =
    earliest (λ i. later (Since (round_of sizes i)) (move_round k annotation rest (get_or moves i no_move)))
    (places (λ m. eqb m.state r && eqb m.symbol a) moves)

-- an order-1 stack on a rest, from order-2 state q: over its edges the earliest; an edge has no round of its own
unfoldable pub above_round : (ℕ → Acceptance) → (ℕ → Acceptance) → List Edge → ℕ → Acceptance
above_round top rest edges q = earliest (λ i. edge_round top rest (get_or edges i no_edge)) (places (λ e. eqb e.state q) edges)

module _ (T : Saturated) where
  unfoldable mutual
    pub round1 : Stack1 → ℕ → Acceptance
    round1 nil1 r = final_round T.table.final1 r
    round1 (cons1 a u s) r = symbol_round T.sizes a (annotation_order u) (λ q. round_of_stack u q) (λ q. round1 s q) T.table.moves r

    pub round2 : Stack2 → ℕ → Acceptance
    round2 nil2 q = final_round T.table.final2 q
    round2 (cons2 w t) q = above_round (λ r. round1 w r) (λ x. round2 t x) (edges T.table) q

    -- a stack of either order
    pub round_of_stack : Annotation → ℕ → Acceptance
    round_of_stack (of1 u) q = round1 u q
    round_of_stack (of2 u) q = round2 u q

-- the automaton accepts a stack of either order from state q
unfoldable pub accepts_stack : Automaton → Annotation → ℕ → Bool
accepts_stack A (of1 u) q = accepts1 A u q
accepts_stack A (of2 u) q = accepts2 A u q
